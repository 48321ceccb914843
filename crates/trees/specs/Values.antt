-- The value records that the entries name: "the n leaves name n different value records" (the rules T), and index 0 means none. Insert and
-- remove keep it so.
use Rattle.std.proofs.Common.{sym}
use Rattle.std.specs.Prelude.{◌≢◌, Bool, cond, List, [], ◌∷◌, ℕ, ltb}
use Rattle.keys.specs.declared.Key.{Key}
use Rattle.keys.specs.Number.{number_of}
use Rattle.lists.specs.Lists.{All, Pairs}
use Rattle.lists.specs.Entries.{same, erase}
use Rattle.trees.specs.Keys.{chosen}
use Rattle.trees.specs.Ends.{beside, all_beside, pairs_beside}
use Rattle.trees.specs.Insert.{put}

-- a key and the index of its value record
abbrev pub Entry : Type 0
Entry = Key × ℕ

-- two entries name different records
abbrev pub Unlike : Entry → Entry → Type 0
Unlike x y = x.1 ≢ y.1

pub record Numbered (es : List Entry) : Type 0 where
  pub nonzero : All (λ e. e.1 ≢ 0) es
  pub different : Pairs Unlike es

-- the entry at the side's end, against the others
pub numbered_end : (b : Bool) (x : Entry) (es : List Entry) → Numbered (beside b (x ∷ []) es) → (x.1 ≢ 0) × All (Unlike x) es × Numbered es
numbered_end b x es n = (z.0.0, d.2.0, record { nonzero = z.1; different = d.1 })
  where
    z : All (λ e. e.1 ≢ 0) (x ∷ []) × All (λ e. e.1 ≢ 0) es
    z = all_beside (λ e. e.1 ≢ 0) b (x ∷ []) es n.nonzero

    d : Pairs Unlike (x ∷ []) × Pairs Unlike es × (All (Unlike x) es × Unit {0})
    d = pairs_beside (λ x y h e. h (sym e)) b (x ∷ []) es n.different

-- ---- insert, which takes a record that no entry names

pub all_put : (P : Entry → Type 0) (k : Key) (v : ℕ) (es : List Entry) → P (k, v) → All P es → All P (put k v es)
all_put P k v [] p h = (p, tt)
all_put P k v (e ∷ es) p h =
    chosen (All P) (same k e.0) (e ∷ es) (cond (ltb (number_of k) (number_of e.0)) ((k, v) ∷ e ∷ es) (e ∷ put k v es)) h
    (chosen (All P) (ltb (number_of k) (number_of e.0)) ((k, v) ∷ e ∷ es) (e ∷ put k v es) (p, h) (h.0, all_put P k v es p h.1))

pairs_put : (k : Key) (v : ℕ) (es : List Entry) → All (Unlike (k, v)) es → Pairs Unlike es → Pairs Unlike (put k v es)
pairs_put k v [] f h = (tt, tt)
pairs_put k v (e ∷ es) f h =
    chosen (Pairs Unlike) (same k e.0) (e ∷ es) (cond (ltb (number_of k) (number_of e.0)) ((k, v) ∷ e ∷ es) (e ∷ put k v es)) h
    (chosen (Pairs Unlike) (ltb (number_of k) (number_of e.0)) ((k, v) ∷ e ∷ es) (e ∷ put k v es) (f, h)
    (all_put (Unlike e) k v es (λ q. f.0 (sym q)) h.0, pairs_put k v es f.1 h.1))

pub numbered_put : (k : Key) (v : ℕ) (es : List Entry) → v ≢ 0 → All (λ e. v ≢ e.1) es → Numbered es → Numbered (put k v es)
numbered_put k v es z f n = record { nonzero = all_put (λ e. e.1 ≢ 0) k v es z n.nonzero; different = pairs_put k v es f n.different }

-- ---- remove

pub all_erase : (P : Entry → Type 0) (k : Key) (es : List Entry) → All P es → All P (erase k es)
all_erase P k [] h = tt
all_erase P k (e ∷ es) h = chosen (All P) (same k e.0) es (e ∷ erase k es) h.1 (h.0, all_erase P k es h.1)

pairs_erase : (k : Key) (es : List Entry) → Pairs Unlike es → Pairs Unlike (erase k es)
pairs_erase k [] h = tt
pairs_erase k (e ∷ es) h = chosen (Pairs Unlike) (same k e.0) es (e ∷ erase k es) h.1 (all_erase (Unlike e) k es h.0, pairs_erase k es h.1)

pub numbered_erase : (k : Key) (es : List Entry) → Numbered es → Numbered (erase k es)
numbered_erase k es n = record { nonzero = all_erase (λ e. e.1 ≢ 0) k es n.nonzero; different = pairs_erase k es n.different }
