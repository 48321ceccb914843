-- A listing that is asked at its two ends in any order answers what the ascending list answers.
use Rattle.std.specs.Prelude.{◌≡◌, refl, ◌≢◌, ◌⊎◌, Bool, true, false, cond, not, ℕ}
use Rattle.std.proofs.Common.{ap, ap₂, sym, subst, ◌∙◌, inl, inr, eq-eqb, ne_eqb}
use Rattle.std.proofs.Math.Bool.{not-not}
use Rattle.std.proofs.Math.Option.{Option, none, some, none-ne-some, some-injective}
use mathlib.Core.List.{List, [], ◌∷◌}
use Rattle.lists.specs.Lists.{All}
use Rattle.lists.specs.Entries.{list_end, rest_of}
use Rattle.trees.specs.Ends.{beside, beside_nil, beside_turned, beside_beside, all_beside, end_beside, end_lone, rest_lone, Ends, ends, all_end}
use Rattle.trees.specs.Tree.{Tree, leaf, inner, entries}
use Rattle.trees.specs.Map.{Map, list_of}
use Rattle.trees.specs.Values.{Entry, Unlike, Numbered, numbered_end}
use Rattle.trees.specs.Walk.{End, Position, start, popped, next, end_at, position, move, step, taken, run, spread, value_at, At, Standing, Stands, Answers, start_stands}

spread_popped : (b : Bool) (t : Tree) (s : List Tree) → spread b (t ∷ s) ≡ beside b ((popped b t s).0 ∷ []) (spread b (popped b t s).1)
spread_popped b (leaf i k v) s = refl
spread_popped false (inner i k p l r) s = beside_beside false (entries l) (entries r) (spread false s) ∙ spread_popped false l (r ∷ s)
spread_popped true (inner i k p l r) s = beside_beside true (entries r) (entries l) (spread true s) ∙ spread_popped true r (l ∷ s)

-- nothing is left: no answer, and the end has met the other one or stays as it is; or the entry at the side's end is given
abbrev Outcome : Bool → End → List Entry → List Entry → List Entry → Option Entry × End × Bool → Type 0
Outcome b e mid own other r =
    ((mid ≡ []) × (r.0 ≡ none) × ((r.2 ≡ true) ⊎ ((r.1 ≡ e) × (r.2 ≡ false))))
    ⊎ ((x : Entry) × (rest : List Entry) × (mid ≡ beside b (x ∷ []) rest) × (r.0 ≡ some x) × (r.2 ≡ false)
    × At b r.1 rest (beside (not b) (x ∷ []) own) other)

-- an entry that differs from all that the other end gave is not what it gave last
unlike : (b : Bool) (v : ℕ) (es : List Entry) → v ≢ 0 → All (λ y. v ≢ y.1) es → v ≢ value_at (list_end b es)
unlike b v es z h = go (ends b es)
  where
    go : Ends b es → v ≢ value_at (list_end b es)
    go (inl e) = rw e z
    go (inr (y, rest, e)) =
        let f : list_end b es ≡ some y = ap (list_end b) e ∙ end_lone b y rest in
        rw f (all_end (λ y. v ≢ y.1) b es h f)

outcome : (b : Bool) (s : List Tree) (last met : ℕ) (mid own other : List Entry) → At b (record { stack = s; last = last }) mid own other
    → met ≡ value_at (list_end b other) → Outcome b (record { stack = s; last = last }) mid own other (next b s last met)
outcome b [] last met mid own other a q = go (ends b mid)
  where
    go : Ends b mid → Outcome b (record { stack = []; last = last }) mid own other (next b [] last met)
    go (inl e) = inl (e, refl, inr (refl, refl))
    go (inr (x, rest, e)) = absurd (none-ne-some x (ap (list_end b) a.ahead ∙ end_beside b mid other (ap (list_end b) e ∙ end_lone b x rest)))
outcome b (t ∷ s) last met mid own other a q = go (ends b mid)
  where
    x : Entry
    x = (popped b t s).0

    below : List Entry
    below = spread b (popped b t s).1

    all : beside b (x ∷ []) below ≡ beside b mid other
    all = sym (spread_popped b t s) ∙ a.ahead

    n : (x.1 ≢ 0) × All (Unlike x) below × Numbered below
    n = numbered_end b x below (subst Numbered (spread_popped b t s) a.numbered)

    go : Ends b mid → Outcome b (record { stack = t ∷ s; last = last }) mid own other (next b (t ∷ s) last met)
    go (inl e) =
        let o : other ≡ beside b (x ∷ []) below = sym (beside_nil b other) ∙ ap (λ m. beside b m other) (sym e) ∙ sym all in
        let m : met ≡ x.1 = q ∙ ap value_at (ap (list_end b) o ∙ end_lone b x below) in
        rw (eq-eqb x.1 met (sym m)) (inl (e, refl, inl refl))
    go (inr (y, rest, e)) =
        let f : beside b (x ∷ []) below ≡ beside b (y ∷ []) (beside b rest other) = all ∙ ap (λ m. beside b m other) e ∙ beside_beside b (y ∷ []) rest other in
        let same : x ≡ y = some-injective x y (sym (end_lone b x below) ∙ ap (list_end b) f ∙ end_lone b y (beside b rest other)) in
        let tail : below ≡ beside b rest other = sym (rest_lone b x below) ∙ ap (rest_of b) f ∙ rest_lone b y (beside b rest other) in
        let far = (all_beside (Unlike x) b rest other (subst (All (Unlike x)) tail n.1)).1 in
        let d : x.1 ≢ met = λ h. unlike b x.1 other n.0 far (h ∙ q) in
        let l : x.1 ≡ value_at (list_end (not b) (beside (not b) (x ∷ []) own)) = sym (ap value_at (end_lone (not b) x own)) in
        rw (ne_eqb x.1 met d) (inr (x, rest, e ∙ ap (λ z. beside b (z ∷ []) rest) (sym same), refl, refl, record { ahead = tail; latest = l; numbered = n.2 }))

-- the other end, when the entry x at the side's end has been given
stays : (b : Bool) (e : End) (mid own other : List Entry) (x : Entry) (rest : List Entry) → mid ≡ beside b (x ∷ []) rest → At (not b) e mid other own
    → At (not b) e rest other (beside (not b) (x ∷ []) own)
stays b e mid own other x rest f a = record {
  ahead = a.ahead ∙ ap (λ m. beside (not b) m own) (f ∙ sym (beside_turned b rest (x ∷ []))) ∙ beside_beside (not b) rest (x ∷ []) own;
  latest = a.latest;
  numbered = a.numbered;
}

seen : (b : Bool) (w : Position) (mid : List Entry) → Standing w mid
    → (own : List Entry) × (other : List Entry) × At b (end_at b w) mid own other × At (not b) (end_at (not b) w) mid other own
seen false w mid h = (h.before, h.behind, h.at_front, h.at_back)
seen true w mid h = (h.behind, h.before, h.at_back, h.at_front)

standing : (b : Bool) (near far : End) (ended : Bool) (mid own other : List Entry) → ended ≡ false → At b near mid own other → At (not b) far mid other own
    → Standing (position b near far ended) mid
standing false near far ended mid own other e x y = record { on = e; before = own; behind = other; at_front = x; at_back = y }
standing true near far ended mid own other e x y = record { on = e; before = other; behind = own; at_front = y; at_back = x }

has_ended : (b : Bool) (near far : End) (ended : Bool) → (position b near far ended).ended ≡ ended
has_ended false near far ended = refl
has_ended true near far ended = refl

move_stands : (b : Bool) (w : Position) (mid : List Entry) → Standing w mid → Answers b mid (move b w)
move_stands b w mid h = go (seen b w mid h)
  where
    near : End
    near = end_at b w

    far : End
    far = end_at (not b) w

    r : Option Entry × End × Bool
    r = next b near.stack near.last far.last

    w' : Position
    w' = position b r.1 far r.2

    end : (own other : List Entry) → At b near mid own other → At (not b) far mid other own → Outcome b near mid own other r → Answers b mid (r.0, w')
    end own other a c (inl (z, e, inl m)) = (e ∙ sym (ap (list_end b) z), inl (has_ended b r.1 far r.2 ∙ m, ap (rest_of b) z))
    end own other a c (inl (z, e, inr (s, m))) =
        let h = standing b r.1 far r.2 mid own other m (subst (λ n. At b n mid own other) (sym s) a) c in
        (e ∙ sym (ap (list_end b) z), inr (subst (Standing w') (z ∙ sym (ap (rest_of b) z)) h))
    end own other a c (inr (x, rest, f, e, m, a')) =
        let h = standing b r.1 far r.2 rest (beside (not b) (x ∷ []) own) other m a' (stays b far mid own other x rest f c) in
        (e ∙ sym (ap (list_end b) f ∙ end_lone b x rest), inr (subst (Standing w') (sym (ap (rest_of b) f ∙ rest_lone b x rest)) h))

    go : (own : List Entry) × (other : List Entry) × At b near mid own other × At (not b) far mid other own → Answers b mid (r.0, w')
    go (own, other, a, c) = end own other a c (outcome b near.stack near.last far.last mid own other a (rw not-not at c.latest))

pub step_stands : (b : Bool) (w : Position) (mid : List Entry) → Stands w mid → Answers b mid (step b w)
step_stands b w mid (inl (e, z)) = subst (λ t. Answers b mid (cond t (none, w) (move b w))) (sym e) (sym (ap (list_end b) z), inl (e, ap (rest_of b) z))
step_stands b w mid (inr h) = subst (λ t. Answers b mid (cond t (none, w) (move b w))) (sym h.on) (move_stands b w mid h)

run_stands : (w : Position) (mid : List Entry) (sides : List Bool) → Stands w mid → run step w sides ≡ run taken mid sides
run_stands w mid [] h = refl
run_stands w mid (b ∷ sides) h =
    let k = step_stands b w mid h in
    ap₂ (λ x xs. x ∷ xs) k.0 (run_stands (step b w).1 (rest_of b mid) sides k.1)

-- A listing that is asked at its two ends in any order answers what the ascending list answers.
pub walk : (m : Map) → Numbered (list_of m) → (sides : List Bool) → run step (start m) sides ≡ run taken (list_of m) sides
walk m n sides = run_stands (start m) (list_of m) sides (start_stands m n)
