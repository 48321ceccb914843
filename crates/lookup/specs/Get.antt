-- Get, contains, `get_addr` and the value write: rules S2, S3 and T10. Each opens the image and descends; a value record is tested only where its value is
-- read or written.
use Rattle.std.specs.Prelude.{List, ◌≡◌, refl, ℕ, Err, None, Ok, Option, Result, Some}
use Rattle.std.proofs.Common.{arith}
use Rattle.records.specs.declared.Refusal.{Refusal}
use Rattle.keys.specs.declared.Key.{Key}
use Rattle.records.specs.declared.Header.{Header}
use Rattle.records.specs.declared.NodeIndex.{NodeIndex}
use Rattle.records.specs.declared.Node.{Node}
use Rattle.records.specs.declared.Value.{Value}
use Rattle.records.specs.declared.Refusal.TheVariants as no
use Rattle.inspection.specs.Visit.{live_of}
use Rattle.inspection.specs.Opening.{open_of}
use Rattle.records.specs.Writes.{live_record, set_value}
use Rattle.descent.specs.declared.Stop.{Stop}
use Rattle.descent.specs.Found.{stop_leaf}
use Rattle.descent.specs.Descent.{find_of}

-- ---- the value record of a leaf, tested

unfoldable pub live_target : NodeIndex → Node → Option Value → Result (NodeIndex × Node × Value) Refusal
live_target i x (Some v) = Ok (i, x, v)
live_target i x None = Err no.Damaged

unfoldable pub leaf_target : ℕ → List ℕ → Result (NodeIndex × Node) Refusal → Result (NodeIndex × Node × Value) Refusal
leaf_target n ws (Ok (i, x)) = live_target i x (live_of n ws i.0 x.value.0)
leaf_target n ws (Err r) = Err r

abbrev pub stop_target : ℕ → List ℕ → Stop → Result (NodeIndex × Node × Value) Refusal
stop_target n ws s = leaf_target n ws (stop_leaf s)

unfoldable pub opened_target : ℕ → List ℕ → Key → Result Header Refusal → Result (NodeIndex × Node × Value) Refusal
opened_target n ws key (Ok h) = stop_target n ws (find_of h ws key)
opened_target n ws key (Err r) = Err r

unfoldable pub target_of : ℕ → ℕ → List ℕ → Key → Result (NodeIndex × Node × Value) Refusal
target_of m n ws key = opened_target n ws key (open_of m n ws)

-- a target is found in an opened image alone
pub target_opened : (m n : ℕ) (ws : List ℕ) (key : Key) (i : NodeIndex) (x : Node) (v : Value)
    → target_of m n ws key ≡ Ok (i, x, v) → (h : Header) × (open_of m n ws ≡ Ok h)
unfolding target_of opened_target
target_opened m n ws key i x v e = go (open_of m n ws) refl e
  where
    go : (o : Result Header Refusal) → open_of m n ws ≡ o → opened_target n ws key o ≡ Ok (i, x, v) → (h : Header) × (open_of m n ws ≡ Ok h)
    go (Ok h) q t = (h, q)
    go (Err r) q t = let z : ◌≡◌ {A = ℕ} 0 1 = cc in absurd (omega arith)

-- ---- get, and the value write

unfoldable pub target_got : Result (NodeIndex × Node × Value) Refusal → Result Value Refusal
target_got (Ok (i, x, v)) = Ok v
target_got (Err r) = Err r

unfoldable pub get_of : ℕ → ℕ → List ℕ → Key → Result Value Refusal
get_of m n ws key = target_got (target_of m n ws key)

unfoldable pub target_done : Result (NodeIndex × Node × Value) Refusal → Result Unit Refusal
target_done (Ok (i, x, v)) = Ok tt
target_done (Err r) = Err r

unfoldable pub write_of : ℕ → ℕ → List ℕ → Key → Result Unit Refusal
write_of m n ws key = target_done (target_of m n ws key)

unfoldable pub target_image : ℕ → ℕ → List ℕ → Value → Result (NodeIndex × Node × Value) Refusal → List ℕ
target_image m n ws v (Ok (i, x, old)) = set_value m n ws x.value.0 (live_record i.0 v)
target_image m n ws v (Err r) = ws

unfoldable pub write_image : ℕ → ℕ → List ℕ → Key → Value → List ℕ
write_image m n ws key v = target_image m n ws v (target_of m n ws key)

-- ---- contains and get_addr test no value record

unfoldable pub leaf_done : Result (NodeIndex × Node) Refusal → Result Unit Refusal
leaf_done (Ok (i, x)) = Ok tt
leaf_done (Err r) = Err r

abbrev pub stop_done : Stop → Result Unit Refusal
stop_done s = leaf_done (stop_leaf s)

unfoldable pub opened_done : List ℕ → Key → Result Header Refusal → Result Unit Refusal
opened_done ws key (Ok h) = stop_done (find_of h ws key)
opened_done ws key (Err r) = Err r

unfoldable pub contains_of : ℕ → ℕ → List ℕ → Key → Result Unit Refusal
contains_of m n ws key = opened_done ws key (open_of m n ws)

unfoldable pub leaf_place : Result (NodeIndex × Node) Refusal → Result NodeIndex Refusal
leaf_place (Ok (i, x)) = Ok i
leaf_place (Err r) = Err r

abbrev pub stop_place : Stop → Result NodeIndex Refusal
stop_place s = leaf_place (stop_leaf s)

unfoldable pub opened_place : List ℕ → Key → Result Header Refusal → Result NodeIndex Refusal
opened_place ws key (Ok h) = stop_place (find_of h ws key)
opened_place ws key (Err r) = Err r

unfoldable pub addr_of : ℕ → ℕ → List ℕ → Key → Result NodeIndex Refusal
addr_of m n ws key = opened_place ws key (open_of m n ws)
