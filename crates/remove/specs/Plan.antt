-- What remove finds out before it writes: rules S4, S10 and S13. Everything is tested on the image as it was before the call, and the plan carries what was
-- found: the header, the leaf, the node above it, the sibling and the value.
use Rattle.std.specs.Prelude.{◌≡◌, refl, List, Bool, true, false, cond, not, ◌&&◌, ℕ, ◌+◌, eqb, ltb, None, Option, Some, Err, Ok, Result}
use Rattle.records.specs.declared.Refusal.{Refusal}
use Rattle.keys.specs.declared.Key.{Key}
use Rattle.keys.specs.Number.{number_of}
use Rattle.keys.specs.Common.{bit_of}
use Rattle.records.specs.declared.Header.{Header}
use Rattle.records.specs.declared.Node.{Node}
use Rattle.records.specs.declared.NodeIndex.{NodeIndex}
use Rattle.records.specs.declared.Value.{Value}
use Rattle.records.specs.declared.Refusal.TheVariants as no
use Rattle.records.specs.Records.{node_of}
use Rattle.inspection.specs.Tests.{used_node, node_ok, kids_ok}
use Rattle.inspection.specs.Visit.{live_of}
use Rattle.descent.specs.declared.Stop.{Stop}
use Rattle.descent.specs.Found.{stop_leaf}
use Rattle.descent.specs.Descent.{leaf_of}
use Rattle.remove.specs.declared.Plan.{Plan}
use Rattle.remove.specs.declared.Plan.TheVariants.{Lone, Cut}

-- the child of a node that the key does not turn to
unfoldable pub sibling_of : Key → Node → NodeIndex
sibling_of key x = cond (bit_of (number_of key) x.prefix) x.left x.right

-- which is the child on the other side than the key's bit
pub sibling_child : (key : Key) (x : Node) → cond (not (bit_of (number_of key) x.prefix)) x.right x.left ≡ sibling_of key x
unfolding sibling_of
sibling_child key x = go (bit_of (number_of key) x.prefix)
  where
    go : (b : Bool) → cond (not b) x.right x.left ≡ cond b x.left x.right
    go true = refl
    go false = refl

-- the sibling s of a leaf below node p of prefix length `prefix`, tested as a visited node, and its children if it is inner. (Node p was visited, so its
-- prefix length is 0..127.)
unfoldable pub sibling_ok : Header → List ℕ → ℕ → ℕ → ℕ → Bool
sibling_ok h ws p prefix s = ltb prefix 128 && node_ok h ws s p (prefix + 1) && kids_ok h ws s (node_of ws s)

-- leaf i, whose record is x and whose value is v, below node p: its sibling is tested
unfoldable pub cut_plan : Header → List ℕ → Key → NodeIndex → Node → Value → Result Plan Refusal
cut_plan h ws key i x v =
    cond (used_node h x.parent.0 && sibling_ok h ws x.parent.0 (node_of ws x.parent.0).prefix (sibling_of key (node_of ws x.parent.0)).0)
    (Ok (Cut h i x (node_of ws x.parent.0) (sibling_of key (node_of ws x.parent.0)) (node_of ws (sibling_of key (node_of ws x.parent.0)).0) v))
    (Err no.Damaged)

-- the value record that is freed is tested first; then the leaf is the root, or hangs below a node
unfoldable pub leaf_plan : Header → List ℕ → Key → NodeIndex → Node → Option Value → Result Plan Refusal
leaf_plan h ws key i x (Some v) = cond (eqb x.parent.0 0) (Ok (Lone h i x v)) (cut_plan h ws key i x v)
leaf_plan h ws key i x None = Err no.Damaged

-- the leaf that the key's bits lead to is compared; an absent key tests neither value record nor sibling
unfoldable pub reached_plan : ℕ → Header → List ℕ → Key → Result (NodeIndex × Node) Refusal → Result Plan Refusal
reached_plan n h ws key (Ok (i, x)) =
    cond (eqb (number_of key) (number_of x.key)) (leaf_plan h ws key i x (live_of n ws i.0 x.value.0)) (Err no.Absent)
reached_plan n h ws key (Err r) = Err r

abbrev pub stop_plan : ℕ → Header → List ℕ → Key → Stop → Result Plan Refusal
stop_plan n h ws key s = reached_plan n h ws key (stop_leaf s)

abbrev pub remove_plan : ℕ → Header → List ℕ → Key → Result Plan Refusal
remove_plan n h ws key = stop_plan n h ws key (leaf_of h ws key)
