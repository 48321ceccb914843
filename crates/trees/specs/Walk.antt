-- Listing from both ends. A position is "two stacks .., the last value index given at each end, and an ended mark" (the rules L); a stack here holds
-- the subtrees themselves. Each end walks the whole tree from its side, and they meet where an end comes to the entry that the other one gave last. Whatever
-- the order of the steps, they take the entries from the two ends of the ascending list, each entry once, one entry a step, and then none for ever.
use Rattle.std.specs.Prelude.{◌≡◌, refl, ◌⊎◌, Bool, true, false, cond, not, ℕ, eqb}
use Rattle.std.proofs.Common.{sym, inr}
use Rattle.std.proofs.Math.Option.{Option, none, some}
use mathlib.Core.List.{List, [], ◌∷◌, ◌++◌, map, append-nil, nil≢cons}
use Rattle.lists.specs.Entries.{list_end, rest_of}
use Rattle.trees.specs.Ends.{beside}
use Rattle.trees.specs.Tree.{Tree, leaf, inner, entries}
use Rattle.trees.specs.Map.{Map, list_of}
use Rattle.trees.specs.Values.{Entry, Numbered}

-- ---- the steps. A side is a Bool: false is the front, true the back

-- one end: its stack, top first, and the last value index that it gave, 0 for none
pub record End : Type 0 where
  pub stack : List Tree
  pub last : ℕ

pub record Position : Type 0 where
  pub front : End
  pub back : End
  pub ended : Bool

abbrev pub start : Map → Position
start none = record { front = record { stack = []; last = 0 }; back = record { stack = []; last = 0 }; ended = false }
start (some t) = record { front = record { stack = t ∷ []; last = 0 }; back = record { stack = t ∷ []; last = 0 }; ended = false }

-- t is popped: a leaf is the entry, and the stack is left as it is; of an inner node both children are pushed, the one on the side last, and that one is
-- popped next
abbrev pub popped : Bool → Tree → List Tree → Entry × List Tree
popped b (leaf i k v) s = ((k, v), s)
popped false (inner i k p l r) s = popped false l (r ∷ s)
popped true (inner i k p l r) s = popped true r (l ∷ s)

-- An end's answer, what becomes of the end, and whether it has met the other one. An entry is given, unless it is what the other end gave last.
abbrev pub gives : Entry × List Tree → Option Entry × End × Bool
gives x = (some x.0, record { stack = x.1; last = x.0.1 }, false)

abbrev pub meets : Entry × List Tree → ℕ → Option Entry × End × Bool
meets x last = (none, record { stack = x.1; last = last }, true)

abbrev pub next : Bool → List Tree → ℕ → ℕ → Option Entry × End × Bool
next b [] last other = (none, record { stack = []; last = last }, false)
next b (t ∷ s) last other = let x = popped b t s in cond (eqb x.0.1 other) (meets x last) (gives x)

abbrev pub end_at : Bool → Position → End
end_at false w = w.front
end_at true w = w.back

abbrev pub position : Bool → End → End → Bool → Position
position false near far ended = record { front = near; back = far; ended = ended }
position true near far ended = record { front = far; back = near; ended = ended }

abbrev pub move : Bool → Position → Option Entry × Position
move b w =
    let near = end_at b w in
    let far = end_at (not b) w in
    let r = next b near.stack near.last far.last in
    (r.0, position b r.1 far r.2)

abbrev pub step : Bool → Position → Option Entry × Position
step b w = cond w.ended (none, w) (move b w)

-- from the ascending list the step of a side takes the first entry, or the last
abbrev pub taken : {A : Type 0} → Bool → List A → Option A × List A
taken b xs = (list_end b xs, rest_of b xs)

-- the answers of a run of steps, one for each side asked
abbrev pub run : {S A : Type 0} → (Bool → S → Option A × S) → S → List Bool → List (Option A)
run f s [] = []
run f s (b ∷ bs) = (f b s).0 ∷ run f (f b s).1 bs

-- ---- what lies below a stack

-- its entries, in ascending order
abbrev pub spread : Bool → List Tree → List Entry
spread b [] = []
spread b (t ∷ s) = beside b (entries t) (spread b s)

-- ---- one end. Before it lie the entries that neither end has given, mid, and then what the other one gave

abbrev pub value_at : Option Entry → ℕ
value_at none = 0
value_at (some x) = x.1

pub record At (b : Bool) (e : End) (mid own other : List Entry) : Type 0 where
  pub ahead : spread b e.stack ≡ beside b mid other
  pub latest : e.last ≡ value_at (list_end (not b) own)
  pub numbered : Numbered (spread b e.stack)

-- An end's stack runs empty only when it has given every entry itself.
pub emptied : (b : Bool) (last : ℕ) (mid own other : List Entry) → At b (record { stack = []; last = last }) mid own other → (mid ≡ []) × (other ≡ [])
emptied b last mid own other a = go b a.ahead
  where
    parts : (xs ys : List Entry) → xs ++ ys ≡ [] → (xs ≡ []) × (ys ≡ [])
    parts [] ys e = (refl, e)
    parts (x ∷ xs) ys e = absurd (nil≢cons (sym e))

    go : (b : Bool) → [] ≡ beside b mid other → (mid ≡ []) × (other ≡ [])
    go false e = parts mid other (sym e)
    go true e = let h = parts other mid (sym e) in (h.1, h.0)

-- ---- both ends

pub record Standing (w : Position) (mid : List Entry) : Type 0 where
  pub on : w.ended ≡ false
  pub before : List Entry
  pub behind : List Entry
  pub at_front : At false w.front mid before behind
  pub at_back : At true w.back mid behind before

-- the listing has ended with nothing left, or it stands at what is left
abbrev pub Stands : Position → List Entry → Type 0
Stands w mid = ((w.ended ≡ true) × (mid ≡ [])) ⊎ Standing w mid

-- what a step must answer and leave, where mid is left
abbrev pub Answers : Bool → List Entry → Option Entry × Position → Type 0
Answers b mid z = (z.0 ≡ list_end b mid) × Stands z.1 (rest_of b mid)

pub start_stands : (m : Map) → Numbered (list_of m) → Stands (start m) (list_of m)
start_stands none n = inr (record {
  on = refl;
  before = [];
  behind = [];
  at_front = record { ahead = refl; latest = refl; numbered = n };
  at_back = record { ahead = refl; latest = refl; numbered = n };
})
start_stands (some t) n = inr (record {
  on = refl;
  before = [];
  behind = [];
  at_front = record { ahead = refl; latest = refl; numbered = rw (append-nil (entries t)) n };
  at_back = record { ahead = refl; latest = refl; numbered = n };
})

-- From the empty list every step takes nothing, for ever.
pub none_left : (sides : List Bool) → run taken [] sides ≡ map {B = Option Entry} (λ b. none) sides
none_left [] = refl
none_left (b ∷ sides) = rw (none_left sides)
