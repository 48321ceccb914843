-- The trees of a listing's stacks: each is a part of the image's tree, so that the image holds it, and its place in the stack names its top.
use Rattle.std.specs.Prelude.{◌≡◌, refl, List, [], ◌∷◌, ◌≢◌, ◌⊎◌, ℕ, ◌+◌, ◌≤◌, ◌<◌, length, get_or, set}
use Rattle.std.proofs.Common.{sym, subst, ◌∙◌, inl, inr, arith, get_or-set_same, get_or-set_other}
use Rattle.std.proofs.Math.Option.{none, some}
use Rattle.keys.specs.declared.Key.{Key}
use Rattle.records.specs.declared.Header.{Header}
use Rattle.records.specs.declared.NodeIndex.{NodeIndex}
use Rattle.lists.specs.Lists.{All, all_parts}
use Rattle.trees.specs.Tree.{Tree, leaf, inner, top, entries}
use Rattle.trees.specs.Map.{Map, list_of}
use Rattle.accepted.specs.Rules.{Holds}
use Rattle.accepted.specs.Accepted.{HoldsMap}
use Rattle.accepted_lookup.specs.Descents.{at}

-- ---- parts of a tree

-- the tree itself, or a part of one of its children
abbrev pub Part : Tree → Tree → Type 0
Part u (leaf i key v) = u ≡ leaf i key v
Part u (inner i key p l r) = (u ≡ inner i key p l r) ⊎ (Part u l ⊎ Part u r)

pub part_whole : (t : Tree) → Part t t
part_whole (leaf i key v) = refl
part_whole (inner i key p l r) = inl refl

pub part_children : (i : ℕ) (key : Key) (p : ℕ) (l r t : Tree) → Part (inner i key p l r) t → Part l t × Part r t
part_children i key p l r (leaf j a v) e = let z : ◌≡◌ {A = ℕ} 0 1 = cc in absurd (omega arith)
part_children i key p l r (inner j a q x y) (inl e) =
    let left : l ≡ x = cc in
    let right : r ≡ y = cc in (
      inr (inl (subst (λ (u : Tree). Part u x) (sym left) (part_whole x))),
      inr (inr (subst (λ (u : Tree). Part u y) (sym right) (part_whole y))),
    )
part_children i key p l r (inner j a q x y) (inr (inl h)) = let k = part_children i key p l r x h in (inr (inl k.0), inr (inl k.1))
part_children i key p l r (inner j a q x y) (inr (inr h)) = let k = part_children i key p l r y h in (inr (inr k.0), inr (inr k.1))

-- what holds of every entry of a tree holds of those of a part
pub part_entries : (P : Key × ℕ → Type 0) (u t : Tree) → Part u t → All P (entries t) → All P (entries u)
part_entries P u (leaf i key v) e h = subst (λ (x : Tree). All P (entries x)) (sym e) h
part_entries P u (inner i key p l r) (inl e) h = subst (λ (x : Tree). All P (entries x)) (sym e) h
part_entries P u (inner i key p l r) (inr (inl q)) h = part_entries P u l q (all_parts P (entries l) (entries r) h).0
part_entries P u (inner i key p l r) (inr (inr q)) h = part_entries P u r q (all_parts P (entries l) (entries r) h).1

-- an image that holds a tree holds its parts
pub record HeldPart (h : Header) (ws : List ℕ) (t : Tree) : Type 0 where
  pub parent : ℕ
  pub low : ℕ
  pub held : Holds h ws parent low t

pub part_held : (h : Header) (ws : List ℕ) (parent low : ℕ) (u t : Tree) → Part u t → Holds h ws parent low t → HeldPart h ws u
unfolding Holds
part_held h ws parent low u (leaf i key v) e k =
    record { parent = parent; low = low; held = subst (λ (x : Tree). Holds h ws parent low x) (sym e) k }
part_held h ws parent low u (inner i key p l r) (inl e) k =
    record { parent = parent; low = low; held = subst (λ (x : Tree). Holds h ws parent low x) (sym e) k }
part_held h ws parent low u (inner i key p l r) (inr (inl q)) k = part_held h ws i (p + 1) u l q k.on_left
part_held h ws parent low u (inner i key p l r) (inr (inr q)) k = part_held h ws i (p + 1) u r q k.on_right

-- ---- parts of a map

abbrev pub PartOf : Map → Tree → Type 0
PartOf none u = ⊥
PartOf (some t) u = Part u t

pub map_children : (m : Map) (i : ℕ) (key : Key) (p : ℕ) (l r : Tree) → PartOf m (inner i key p l r) → PartOf m l × PartOf m r
map_children none i key p l r h = absurd h
map_children (some t) i key p l r h = part_children i key p l r t h

pub map_entries : (P : Key × ℕ → Type 0) (m : Map) (u : Tree) → PartOf m u → All P (list_of m) → All P (entries u)
map_entries P none u q h = absurd q
map_entries P (some t) u q h = part_entries P u t q h

pub map_held : (h : Header) (ws : List ℕ) (m : Map) (u : Tree) → PartOf m u → HoldsMap h ws m → HeldPart h ws u
unfolding HoldsMap
map_held h ws none u q k = absurd q
map_held h ws (some t) u q k = part_held h ws 0 0 u t q k.held

-- ---- a stack's places

-- from the bottom up they name the tops of the stack's trees
abbrev pub Named : List NodeIndex → List Tree → Type 0
Named places [] = Unit {0}
Named places (t ∷ s) = (get_or places (length s) (at 0) ≡ at (top t)) × Named places s

-- a store above the stack
pub named_kept : (places : List NodeIndex) (k : ℕ) (x : NodeIndex) (s : List Tree) → length s ≤ k → Named places s → Named (set places k x) s
named_kept places k x [] l h = tt
named_kept places k x (t ∷ s) l h =
    let off : length s ≢ k = λ e. omega arith in
    (get_or-set_other places k (length s) x (at 0) off ∙ h.0, named_kept places k x s (omega arith) h.1)

-- the far child is put on the stack, and the near one above it
pub named_pushed : (places : List NodeIndex) (far : Tree) (near : NodeIndex) (s : List Tree) → length s < length places → Named places s
    → Named (set (set places (length s) (at (top far))) (length s + 1) near) (far ∷ s)
named_pushed places far near s l h =
    named_kept (set places (length s) (at (top far))) (length s + 1) near (far ∷ s) (omega arith)
    (get_or-set_same places (length s) (at (top far)) (at 0) l, named_kept places (length s) (at (top far)) s (omega arith) h)
