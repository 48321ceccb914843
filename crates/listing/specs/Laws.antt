-- What the loop that opens nodes goes by: prefix lengths rise from a node to its children, so that it ends, and what is left of it after a turn is what was
-- left before.
use Rattle.std.proofs.Math.Path.{◌≡◌, refl, sym, ap}
use Rattle.std.proofs.Common.{◌∙◌, arith}
use Rattle.std.specs.Prelude.{List, Bool, ◌&&◌, not, length, set, leb, Ok}
use Rattle.std.proofs.Math.Bool.{true, false, cond}
use Rattle.std.proofs.lemmas.Bool.{false≢true}
use Prim.Native.Nat.{ℕ, zero, suc, ◌+◌, ◌-◌, ◌≤◌, ◌<◌}
use Rattle.std.proofs.Math.Dec.{ltb}
use borrow.Author.Tests.{leb-true, ltb-true}
use Rattle.words.specs.Tests.{and_l, and_r}
use Rattle.words.specs.Words.{words}
use Rattle.records.specs.Layout.{image_of}
use Rattle.records.specs.declared.Header.{Header}
use Rattle.records.specs.declared.NodeIndex.{NodeIndex}
use Rattle.records.specs.declared.ValueIndex.{ValueIndex}
use Rattle.inspection.specs.declared.Visited.{Visited}
use Rattle.inspection.specs.declared.Visited.TheVariants as visited
use Rattle.inspection.specs.Tests.{node_ok}
use Rattle.inspection.specs.Visit.{visit_of, first_of, visit_passed, first_passed}
use Rattle.inspection.specs.Room.{Room, room, image_words}
use Rattle.listing.specs.declared.Stack.{Stack}
use Rattle.listing.specs.declared.Opens.{Opens}
use Rattle.listing.specs.declared.Opens.TheVariants.{On, Spoiled}
use Rattle.listing.specs.declared.Reached.{Reached}
use Rattle.listing.specs.declared.Given.{Given}
use Rattle.listing.specs.Position.{most_places}
use Rattle.listing.specs.Step.{near_of, far_of, open_turn, reached_at, open_by, open_to, top_of, pop_to, opened_moved}
use Rattle.listing.specs.Ends.{given_of, given, given_moved, end_step, admit_of, admit_moved, admit_pops}

-- how far an opening has come: a node's prefix length, and 128 where there is nothing to open
abbrev pub reach_of : Visited → ℕ
reach_of (visited.Inner x) = x.prefix
reach_of (visited.Leaf x) = 128
reach_of visited.Damaged = 128

-- ---- a turn

module _ (back : Bool) (h : Header) (ws : List ℕ) (count : ℕ) (i : NodeIndex) where
  -- a turn that goes on has room for two, and what it goes on with lies further on
  goes_on : (came : Visited) (wait next : NodeIndex) (what : Visited) → open_turn back h ws count i came ≡ On wait next what
      → (count + 2 ≤ 129) × (reach_of came < reach_of what) × (reach_of what ≤ 128)
  unfolding open_turn
  goes_on (visited.Leaf x) wait next what e = let z : ◌≡◌ {A = ℕ} 0 1 = cc in absurd (omega arith)
  goes_on visited.Damaged wait next what e = let z : ◌≡◌ {A = ℕ} 0 1 = cc in absurd (omega arith)
  goes_on (visited.Inner x) wait next what e = go ((leb (count + 2) most_places && ltb x.prefix 128) && node_ok h ws (far_of back x).0 i.0 (x.prefix + 1)) refl e
    where
      go : (b : Bool) → (leb (count + 2) most_places && ltb x.prefix 128) && node_ok h ws (far_of back x).0 i.0 (x.prefix + 1) ≡ b
          → cond b (On (far_of back x) (near_of back x) (visit_of h ws (near_of back x).0 i.0 (x.prefix + 1))) Spoiled ≡ On wait next what
          → (count + 2 ≤ 129) × (x.prefix < reach_of what) × (reach_of what ≤ 128)
      go false t d = let z : ◌≡◌ {A = ℕ} 0 1 = cc in absurd (omega arith)
      go true t d =
          let same : visit_of h ws (near_of back x).0 i.0 (x.prefix + 1) ≡ what = cc in
          let short : x.prefix < 128 = ltb-true x.prefix 128 (search (and_l, and_r)) in
          let k = further what same short in (leb-true (count + 2) 129 (search (and_l, and_r)), k.0, k.1)
        where
          further : (v : Visited) → visit_of h ws (near_of back x).0 i.0 (x.prefix + 1) ≡ v → x.prefix < 128 → (x.prefix < reach_of v) × (reach_of v ≤ 128)
          further (visited.Inner y) q l = let k = visit_passed h ws (near_of back x).0 i.0 (x.prefix + 1) y q in (omega (arith, k.0), omega (arith, k.1))
          further (visited.Leaf y) q l = (l, omega arith)
          further visited.Damaged q l = (l, omega arith)

-- Where the opening stands: what is left to open is the whole.
pub record Opening (back : Bool) (h : Header) (ws : List ℕ) (s : Stack) (places : List NodeIndex) (count : ℕ) (i : NodeIndex) (came : Visited) : Type 0 where
  pub fuel : ℕ
  pub enough : 129 ≤ fuel + reach_of came
  pub within : reach_of came ≤ 128
  pub room : count ≤ 129
  pub rest : open_to fuel back h ws places count i came ≡ pop_to back h ws s

-- it begins at the top of the stack
pub opening : (back : Bool) (h : Header) (ws : List ℕ) (s : Stack) → s.count ≤ 129 → Opening back h ws s s.places (s.count - 1) (top_of s) (first_of h ws (top_of s).0)
unfolding pop_to
opening back h ws s l = record { fuel = 129; enough = omega arith; within = small (first_of h ws (top_of s).0) refl; room = omega arith; rest = refl }
  where
    small : (v : Visited) → first_of h ws (top_of s).0 ≡ v → reach_of v ≤ 128
    small (visited.Inner x) e = let k = first_passed h ws (top_of s).0 x e in omega (arith, k)
    small (visited.Leaf x) e = omega arith
    small visited.Damaged e = omega arith

module _ (back : Bool) (h : Header) (ws : List ℕ) (s : Stack) (places : List NodeIndex) (count : ℕ) (i : NodeIndex) (came : Visited) (o : Opening back h ws s places count i came) where
  module _ (wait next : NodeIndex) (what : Visited) (e : open_turn back h ws count i came ≡ On wait next what) where
    pub opens_room : count + 2 ≤ 129
    opens_room = (goes_on back h ws count i came wait next what e).0

    -- it ends
    pub opens_nearer : (reach_of came < reach_of what) × (reach_of what ≤ 128)
    opens_nearer = let k = goes_on back h ws count i came wait next what e in (k.1, k.2)

    pub opens_on : Opening back h ws s (set (set places count wait) (count + 1) next) (count + 1) next what
    unfolding open_to
    opens_on = go o.fuel o.enough o.rest
      where
        go : (f : ℕ) → 129 ≤ f + reach_of came → open_to f back h ws places count i came ≡ pop_to back h ws s
            → Opening back h ws s (set (set places count wait) (count + 1) next) (count + 1) next what
        go zero n r = absurd (omega (arith, o.within))
        go (suc f) n r =
            record {
              fuel = f;
              enough = omega (arith, opens_nearer.0);
              within = opens_nearer.1;
              room = omega (arith, opens_room);
              rest = sym (ap (open_by (λ w x v. open_to f back h ws (set (set places count w) (count + 1) x) (count + 1) x v) places count i came) e) ∙ r;
            }

  -- the last turn
  pub opens_last : (t : Opens) → open_turn back h ws count i came ≡ t → (v : Visited)
      → ((go : NodeIndex → NodeIndex → Visited → Reached) → open_by go places count i came t ≡ reached_at v places count i) → reached_at v places count i ≡ pop_to back h ws s
  unfolding open_to
  opens_last t e v last = end o.fuel o.enough o.rest
    where
      end : (f : ℕ) → 129 ≤ f + reach_of came → open_to f back h ws places count i came ≡ pop_to back h ws s → reached_at v places count i ≡ pop_to back h ws s
      end zero n r = absurd (omega (arith, o.within))
      end (suc f) n r =
          sym (last (λ w x u. open_to f back h ws (set (set places count w) (count + 1) x) (count + 1) x u))
          ∙ sym (ap (open_by (λ w x u. open_to f back h ws (set (set places count w) (count + 1) x) (count + 1) x u) places count i came) e)
          ∙ r

-- where it ends, the step is what the leaf comes to, put together of its parts
pub finished : (back : Bool) (h : Header) (ws : List ℕ) (s : Stack) (places : List NodeIndex) (count : ℕ) (i : NodeIndex) (v : Visited) (n : ℕ) (other : ValueIndex)
    → reached_at v places count i ≡ pop_to back h ws s → (g : Given) → g ≡ given_of n ws v i s.last other → (places' : List NodeIndex) (count' : ℕ)
    → places' ≡ cond g.moves places s.places → count' ≡ cond g.moves count s.count
    → record { near = record { places = places'; count = count'; last = g.last }; ended = g.ended; entry = g.entry } ≡ opened_moved n ws s other (pop_to back h ws s)
finished back h ws s places count i v n other e g k places' count' p c =
    (λ ι. record { near = record { places = p ι; count = c ι; last = g.last }; ended = g.ended; entry = g.entry }) ∙ ap (given s (reached_at v places count i)) k
    ∙ sym (given_moved n ws s other (reached_at v places count i))
    ∙ ap (opened_moved n ws s other) e

pub kept_back : {A : Type 0} (b : Bool) (x y : A) → not b ≡ true → y ≡ cond b x y
kept_back true x y e = absurd (false≢true e)
kept_back false x y e = refl

pub kept_on : {A : Type 0} (b : Bool) (x y : A) → not b ≡ false → x ≡ cond b x y
kept_on true x y e = refl
kept_on false x y e = absurd (false≢true (sym e))

-- ---- a step that pops a node

module _ (m n : ℕ) (bytes : List ℕ) (ended : Bool) (held : ℕ) (h : Header) where
  -- the header's nodes lie inside
  pub admit_room : (count : ℕ) → admit_of m n (image_of bytes) ended count held ≡ Ok h → Room h (length (words bytes))
  admit_room count e =
      let k = admit_pops m n (image_of bytes) ended count held h e in rw (sym (image_words m n bytes k.shape)) (room m n (image_of bytes) h k.opened)

  -- there is a node to pop, and a place for it
  pub admit_count : (count : ℕ) → admit_of m n (image_of bytes) ended count held ≡ Ok h → (1 ≤ count) × (count ≤ 129)
  admit_count count e = let k = admit_pops m n (image_of bytes) ended count held h e in (k.some, k.most)

  -- the step is what popping comes to
  pub admit_moved_lem : (back : Bool) (s : Stack) (other : ValueIndex) → admit_of m n (image_of bytes) ended s.count held ≡ Ok h
      → opened_moved n (words bytes) s other (pop_to back h (words bytes) s) ≡ end_step back m n (image_of bytes) ended s held other
  unfolding end_step
  admit_moved_lem back s other e =
      let k = admit_pops m n (image_of bytes) ended s.count held h e in
      sym
      (ap (admit_moved back n (image_of bytes) ended s other) e
      ∙ ap (λ ws. opened_moved n ws s other (pop_to back h ws s)) (image_words m n bytes k.shape))
