-- Input that comes in pieces, as the code holds it: the line that has begun is held at the buffer's front, or, where it has more than 80 bytes, only marked; such a line is bad, whatever follows.
use Rattle.std.specs.Prelude.{◌≡◌, ◌≢◌, ◌⊎◌, Bool, true, false, cond, ◌||◌, length, get_or, take, drop, replicate, eqb, ltb, Option, Some, None, is_none, unwrap_or, position}
use Rattle.std.proofs.Math.Path.{refl}
use Rattle.std.proofs.Common.{sym, ap, subst, ◌∙◌, inl, inr, add-one, arith, length-append, length-drop, drop-cons, take-add, drop-drop, length-take-le, take_at, ne_eqb, eqb-true, ltb-true, ltb-false}
use mathlib.Core.List.{List, [], ◌∷◌, ◌++◌, append_assoc, append-nil}
use Rattle.std.proofs.lemmas.Bool.{false≢true, eqb-false}
use Prim.Native.Nat.{ℕ, zero, suc, ◌+◌, ◌-◌, ◌<◌, ◌≤◌}
use Rattle.std.specs.List.{position_or_len}
use Rattle.std.proofs.lemmas.List.{length-replicate}
use Rattle.std.proofs.lemmas.List.Edits.{get_or-between}
use Rattle.std.proofs.lemmas.List.Quantifiers.{position-Some}
use Rattle.std.proofs.lemmas.List.Sums.{fails_before_first}
use Rattle.records.specs.Layout.{image_of}
use Rattle.inspection.specs.Outcome.{Leaves, left_alone}
use Rattle.texts.specs.declared.Command.{Command}
use Rattle.texts.specs.declared.Command.TheVariants as command
use Rattle.texts.specs.Put.{Written, then, nothing, reads}
use Rattle.texts.specs.Lines.{command_of, letter_asked, one_field, two_fields, key_asked, both_asked, alone_asked}
use Rattle.texts.specs.Texts.{bad_text}
use Rattle.commands.specs.Answers.{answer_of, image_after, kept_by}
use Rattle.commands.specs.Session.{byte_text, byte_image, byte_line, byte_kept, fed_text, fed_image, fed_line, fed_kept, either, last_text, last_image, last_kept, fed_text_append, fed_image_append, fed_line_append, fed_kept_append}

-- ---- lines that are too long

-- more than 80 bytes are bad
pub long_bad : (line : List ℕ) → 80 < length line → command_of line ≡ command.Bad
unfolding command_of letter_asked key_asked both_asked alone_asked one_field two_fields
long_bad line h =
    let a : eqb (length line) 0 ≡ false = ne_eqb (length line) 0 (λ e. omega arith) in
    let b : eqb (length line) 34 ≡ false = ne_eqb (length line) 34 (λ e. omega arith) in
    let c : eqb (length line) 67 ≡ false = ne_eqb (length line) 67 (λ e. omega arith) in
    let d : eqb (length line) 1 ≡ false = ne_eqb (length line) 1 (λ e. omega arith) in
    simp (a, b, c, d)
    (all (eqb (get_or line 0 0) 105) (eqb (get_or line 0 0) 114) (eqb (get_or line 0 0) 103) (eqb (get_or line 0 0) 119) (eqb (get_or line 0 0) 110) (eqb (get_or line 0 0) 120) (eqb (get_or line 0 0) 97))
  where
    same : (b : Bool) (x : Command) → x ≡ command.Bad → cond b command.Bad x ≡ command.Bad
    same true x e = refl
    same false x e = e

    all : (a b c d e f g : Bool)
        → cond a command.Bad (cond b command.Bad (cond c command.Bad (cond d command.Bad (cond e command.Bad (cond f command.Bad (cond g command.Bad command.Bad)))))) ≡ command.Bad
    all a b c d e f g = same a _ (same b _ (same c _ (same d _ (same e _ (same f _ (same g _ refl))))))

-- the bytes of a line that went before: none, or, where the line is marked, more than 80
abbrev pub Before : Bool → List ℕ → Type 0
Before true line = 80 < length line
Before false line = line ≡ []

-- some line that may have gone before
pub some_line : (long : Bool) → (line : List ℕ) × Before long line
some_line true = (replicate 81 0, omega (arith, length-replicate {A = ℕ} 81 0))
some_line false = ([], refl)

-- ---- what lines leave, one after the other

-- where neither of two is 0
either_both : (j k : ℕ) → either j k ≢ 0 → (j ≢ 0) × (k ≢ 0)
either_both j k = go (eqb j 0) refl
  where
    go : (t : Bool) → eqb j 0 ≡ t → cond t 0 k ≢ 0 → (j ≢ 0) × (k ≢ 0)
    go true e d = absurd (d refl)
    go false e d = (eqb-false j 0 e, d)

-- the same, said in another way
pub leaves_as : {a b : List ℕ} {j k : ℕ} {u v : List ℕ} → j ≡ k → u ≡ v → Leaves a b j u → Leaves a b k v
leaves_as {a} {b} {j} {k} {u} {v} e f x = subst (λ (l : List ℕ). Leaves a b k l) f (subst (λ (i : ℕ). Leaves a b i u) e x)

-- two in a row are one
pub leaves_then : {a b c : List ℕ} {j k : ℕ} {u v : List ℕ} → Leaves a b j u → Leaves b c k v → Leaves a c (either j k) v
leaves_then {a} {b} {c} {j} {k} x y =
    record {
      words = y.words;
      kept = λ d. y.kept (either_both j k d).1 ∙ x.kept (either_both j k d).0;
    }

-- one, and then nothing
pub leaves_alone : {a b : List ℕ} {k : ℕ} {u : List ℕ} → Leaves a b k u → Leaves a b (either k 1) u
leaves_alone {a} {b} {k} x = leaves_then x (left_alone (sym x.words))

-- ---- a line that has ended

pub record Ended (long : Bool) (text before after out out' : List ℕ) (at behind : ℕ) : Type 0 where
  pub answer : (line : List ℕ) → Before long line → Written out out' at behind (answer_of 256 512 (image_of before) (command_of (line ++ text)))
  pub image : (line : List ℕ) → Before long line
      → Leaves before after (kept_by 256 512 (image_of before) (command_of (line ++ text))) (image_after 256 512 (image_of before) (command_of (line ++ text)))

pub ended_long : {long : Bool} {text img out out' : List ℕ} {at behind : ℕ} → long ≡ true → Written out out' at behind bad_text
    → Ended long text img img out out' at behind
unfolding answer_of image_after
ended_long {long} {text} {img} {out} {out'} {at} {behind} e w =
    record {
      answer = λ line h. rw (bad line h) w;
      image = λ line h. left_alone (rw (bad line h));
    }
  where
    bad : (line : List ℕ) → Before long line → command_of (line ++ text) ≡ command.Bad
    bad line h =
        let l : 80 < length line = subst (λ (b : Bool). Before b line) e h in
        long_bad (line ++ text) (omega (arith, length-append line text))

pub ended_short : {long : Bool} {text before after out out' : List ℕ} {at behind : ℕ} → long ≡ false
    → Written out out' at behind (answer_of 256 512 (image_of before) (command_of text))
    → Leaves before after (kept_by 256 512 (image_of before) (command_of text)) (image_after 256 512 (image_of before) (command_of text))
    → Ended long text before after out out' at behind
ended_short {long} {text} {before} {after} {out} {out'} {at} {behind} e w i =
    record {
      answer = λ line h. rw (none line h) w;
      image = λ line h. rw (none line h) i;
    }
  where
    none : (line : List ℕ) → Before long line → line ≡ []
    none line h = subst (λ (b : Bool). Before b line) e h

-- ---- no LF

abbrev pub NoEnd : List ℕ → Type 0
NoEnd [] = Unit
NoEnd (b ∷ bytes) = (b ≢ 10) × NoEnd bytes

-- the bytes from a place up to another
abbrev pub part : ℕ → ℕ → List ℕ → List ℕ
part at end bytes = take (end - at) (drop at bytes)

pub part_none : (at : ℕ) (bytes : List ℕ) → part at at bytes ≡ []
part_none at bytes = let z : at - at ≡ 0 = omega arith in rw z

pub part_front : (j : ℕ) (bytes : List ℕ) → part 0 j bytes ≡ take j bytes
part_front j bytes = let z : j - 0 ≡ j = omega arith in rw z

pub part_cons : (at end : ℕ) (bytes : List ℕ) → at < end → end ≤ length bytes → part at end bytes ≡ get_or bytes at 0 ∷ part (at + 1) end bytes
part_cons at end bytes h k =
    let n : end - at ≡ suc (end - suc at) = omega arith in
    rw (add-one at, n, drop-cons bytes at 0 (omega arith))

pub part_append : (a b c : ℕ) (bytes : List ℕ) → a ≤ b → b ≤ c → part a b bytes ++ part b c bytes ≡ part a c bytes
part_append a b c bytes h k =
    let n : c - a ≡ (b - a) + (c - b) = omega arith in
    let z : a + (b - a) ≡ b = omega arith in
    sym
    (ap (λ (j : ℕ). take j (drop a bytes)) n
    ∙ take-add (b - a) (c - b) (drop a bytes)
    ∙ ap (λ (l : List ℕ). part a b bytes ++ take (c - b) l) (drop-drop (b - a) a bytes ∙ ap (λ (j : ℕ). drop j bytes) z))

-- a part in which no byte is LF
pub no_end : (bytes : List ℕ) (at k : ℕ) → at + k ≤ length bytes → ((j : ℕ) → at ≤ j → j < at + k → get_or bytes j 0 ≡ 10 → ⊥) → NoEnd (part at (at + k) bytes)
no_end bytes at zero h f =
    let z : at + zero ≡ at = omega arith in
    rw z (subst NoEnd (sym (part_none at bytes)) tt)
no_end bytes at (suc k) h f =
    let z : at + suc k ≡ at + 1 + k = omega arith in
    subst NoEnd (sym (part_cons at (at + suc k) bytes (omega arith) h))
    (f at (omega arith) (omega arith), rw z (no_end bytes (at + 1) k (omega arith) (λ j p q. f j (omega arith) (omega arith))))

pub no_end_part : (bytes : List ℕ) (a b : ℕ) → a ≤ b → b ≤ length bytes → ((j : ℕ) → a ≤ j → j < b → get_or bytes j 0 ≡ 10 → ⊥) → NoEnd (part a b bytes)
no_end_part bytes a b h k f =
    let z : a + (b - a) ≡ b = omega arith in
    subst (λ (e : ℕ). NoEnd (part a e bytes)) z (no_end bytes a (b - a) (omega arith) (λ j p q. f j p (omega arith)))

-- a line behind others, and its LF
pub part_line : (a b c : ℕ) (bytes : List ℕ) → a ≤ b → b ≤ c → c < length bytes → get_or bytes c 0 ≡ 10
    → part a (c + 1) bytes ≡ part a b bytes ++ (part b c bytes ++ (10 ∷ []))
part_line a b c bytes h k l e =
    let lf : part c (c + 1) bytes ≡ 10 ∷ [] =
    part_cons c (c + 1) bytes (omega arith) (omega arith) ∙ ap (λ (t : List ℕ). get_or bytes c 0 ∷ t) (part_none (c + 1) bytes) ∙ ap (λ (x : ℕ). x ∷ []) e in
    sym (part_append a b (c + 1) bytes h (omega arith))
    ∙ ap (λ (t : List ℕ). part a b bytes ++ t)
    (sym (part_append b c (c + 1) bytes k (omega arith)) ∙ ap (λ (t : List ℕ). part b c bytes ++ t) lf)

pub part_length : (a b : ℕ) (bytes : List ℕ) → a ≤ b → b ≤ length bytes → length (part a b bytes) ≡ b - a
part_length a b bytes h k = length-take-le (b - a) (drop a bytes) (omega (arith, length-drop a bytes))

-- a byte of a part, and whether it is LF
part_byte : (bytes : List ℕ) (from end k : ℕ) → from ≤ k → k < end → get_or (part from end bytes) (k - from) 0 ≡ get_or bytes k 0
part_byte bytes from end k h l =
    let z : from + (k - from) ≡ k = omega arith in
    get_or-between bytes from end (k - from) 0 (omega arith) ∙ ap (λ (i : ℕ). get_or bytes i 0) z

not_lf : (bytes : List ℕ) (from end k : ℕ) → from ≤ k → k < end → eqb (get_or (part from end bytes) (k - from) 0) 10 ≡ false → get_or bytes k 0 ≡ 10 → ⊥
not_lf bytes from end k h l e f = eqb-false (get_or (part from end bytes) (k - from) 0) 10 e (part_byte bytes from end k h l ∙ f)

-- the first LF of a part, and none
pub lf_found : (bytes : List ℕ) (from end i : ℕ) → from ≤ end → end ≤ length bytes → Some i ≡ position (λ b. eqb b 10) (part from end bytes)
    → (from + i < end) × (get_or bytes (from + i) 0 ≡ 10) × ((k : ℕ) → from ≤ k → k < from + i → get_or bytes k 0 ≡ 10 → ⊥)
lf_found bytes from end i g h e =
    let first = position-Some (λ b. eqb b 10) (part from end bytes) i 0 (sym e) in
    let within : from + i < end = omega (arith, first.0, part_length from end bytes g h) in (
      within,
      sym (get_or-between bytes from end i 0 within) ∙ eqb-true _ 10 first.1,
      λ k l m. not_lf bytes from end k l (omega arith) (first.2 (k - from) (omega arith)),
    )

pub lf_none : (bytes : List ℕ) (from end : ℕ) → from ≤ end → end ≤ length bytes → ◌≡◌ {A = Option ℕ} None (position (λ b. eqb b 10) (part from end bytes))
    → (k : ℕ) → from ≤ k → k < end → get_or bytes k 0 ≡ 10 → ⊥
lf_none bytes from end g h e k l m =
    not_lf bytes from end k l m (fails_before_first (λ b. eqb b 10) (part from end bytes) (k - from) 0 (omega (arith, all (ltb first (length (part from end bytes))) refl e, part_length from end bytes g h)))
  where
    first : ℕ
    first = position_or_len (λ b. eqb b 10) (part from end bytes)

    all : (t : Bool) → ltb first (length (part from end bytes)) ≡ t → ◌≡◌ {A = Option ℕ} None (cond t (Some first) None) → length (part from end bytes) ≤ first
    all true f n = absurd (cc)
    all false f n = ltb-false first (length (part from end bytes)) f

module _ (m n : ℕ) where
  -- they belong to the line
  pub fed_text_on : (ws line bytes : List ℕ) → NoEnd bytes → fed_text m n ws line bytes ≡ []
  unfolding fed_text byte_text byte_image byte_line
  fed_text_on ws line [] e = refl
  fed_text_on ws line (b ∷ bytes) e = rw (ne_eqb b 10 e.0) (fed_text_on ws (line ++ (b ∷ [])) bytes e.1)

  pub fed_image_on : (ws line bytes : List ℕ) → NoEnd bytes → fed_image m n ws line bytes ≡ ws
  unfolding fed_image byte_image byte_line
  fed_image_on ws line [] e = refl
  fed_image_on ws line (b ∷ bytes) e = rw (ne_eqb b 10 e.0) (fed_image_on ws (line ++ (b ∷ [])) bytes e.1)

  pub fed_kept_on : (ws line bytes : List ℕ) → NoEnd bytes → fed_kept m n ws line bytes ≡ 1
  unfolding fed_kept byte_kept byte_image byte_line
  fed_kept_on ws line [] e = refl
  fed_kept_on ws line (b ∷ bytes) e = rw (ne_eqb b 10 e.0) (fed_kept_on ws (line ++ (b ∷ [])) bytes e.1)

pub fed_line_on : (line bytes : List ℕ) → NoEnd bytes → fed_line line bytes ≡ line ++ bytes
unfolding fed_line byte_line
fed_line_on line [] e = sym (append-nil line)
fed_line_on line (b ∷ bytes) e =
    rw (ne_eqb b 10 e.0) (fed_line_on (line ++ (b ∷ [])) bytes e.1 ∙ append_assoc line (b ∷ []) bytes)

-- ---- a whole line, with its LF

module _ (m n : ℕ) (ws line bytes : List ℕ) (on : NoEnd bytes) where
  pub line_text_lem : fed_text m n ws line (bytes ++ (10 ∷ [])) ≡ answer_of m n ws (command_of (line ++ bytes))
  unfolding fed_text byte_text
  line_text_lem =
      fed_text_append m n ws line bytes (10 ∷ [])
      ∙ rw (fed_text_on m n ws line bytes on, fed_image_on m n ws line bytes on, fed_line_on line bytes on)
      (append-nil (answer_of m n ws (command_of (line ++ bytes))))

  pub line_image : fed_image m n ws line (bytes ++ (10 ∷ [])) ≡ image_after m n ws (command_of (line ++ bytes))
  unfolding fed_image byte_image
  line_image = fed_image_append m n ws line bytes (10 ∷ []) ∙ rw (fed_image_on m n ws line bytes on, fed_line_on line bytes on)

  pub line_kept : fed_kept m n ws line (bytes ++ (10 ∷ [])) ≡ either (kept_by m n ws (command_of (line ++ bytes))) 1
  unfolding fed_kept byte_kept
  line_kept =
      fed_kept_append m n ws line bytes (10 ∷ [])
      ∙ rw (fed_kept_on m n ws line bytes on, fed_image_on m n ws line bytes on, fed_line_on line bytes on)

  pub line_line : fed_line line (bytes ++ (10 ∷ [])) ≡ []
  unfolding fed_line byte_line
  line_line = fed_line_append line bytes (10 ∷ [])

-- ---- what answering a part of the buffer leaves: the bytes of the part are fed

-- what bytes leave of the image, and of the line that has begun
pub record PieceLeaves (long : Bool) (bytes before after : List ℕ) (long' : Bool) : Type 0 where
  pub image : (line : List ℕ) → Before long line
      → Leaves before after (fed_kept 256 512 (image_of before) line bytes) (fed_image 256 512 (image_of before) line bytes)
  pub line : (line : List ℕ) → Before long line → Before long' (fed_line line bytes)

-- and what they are answered
pub record Fed (long : Bool) (bytes before after out out' : List ℕ) (at behind : ℕ) (long' : Bool) : Type 0 where
  pub answer : (line : List ℕ) → Before long line → Written out out' at behind (fed_text 256 512 (image_of before) line bytes)
  pub leaves : PieceLeaves long bytes before after long'

pub piece_none : {long : Bool} {img : List ℕ} (bytes : List ℕ) → bytes ≡ [] → PieceLeaves long bytes img img long
unfolding fed_image fed_kept fed_line
piece_none {long} {img} bytes e = rw e (record { image = λ line h. left_alone refl; line = λ line h. h })

pub fed_none : {long : Bool} {img out : List ℕ} {at : ℕ} (bytes : List ℕ) → bytes ≡ [] → Fed long bytes img img out out at at long
unfolding fed_text
fed_none {long} {img} {out} {at} bytes e = record { answer = λ line h. rw e nothing; leaves = piece_none bytes e }

-- and a line more
piece_line : {long over : Bool} {s t img₀ img₁ img₂ out₁ out₂ : List ℕ} {i j : ℕ} → NoEnd t
    → PieceLeaves long s img₀ img₁ over → Ended over t img₁ img₂ out₁ out₂ i j → PieceLeaves long (s ++ (t ++ (10 ∷ []))) img₀ img₂ false
piece_line {long} {over} {s} {t} {img₀} {img₁} {img₂} {out₁} {out₂} {i} {j} on x y =
    record {
      image = λ line h.
          let g = fed_line line s in
          let ws = fed_image 256 512 (image_of img₀) line s in
          let more : Leaves img₁ img₂ (kept_by 256 512 ws (command_of (g ++ t))) (image_after 256 512 ws (command_of (g ++ t))) =
          subst (λ (l : List ℕ). Leaves img₁ img₂ (kept_by 256 512 l (command_of (g ++ t))) (image_after 256 512 l (command_of (g ++ t)))) (x.image line h).words
          (y.image g (x.line line h)) in
          leaves_as (sym (fed_kept_append 256 512 (image_of img₀) line s (t ++ (10 ∷ [])))) (sym (fed_image_append 256 512 (image_of img₀) line s (t ++ (10 ∷ []))))
          (leaves_then (x.image line h)
          (leaves_as (sym (line_kept 256 512 ws g t on)) (sym (line_image 256 512 ws g t on)) (leaves_alone more)));
      line = λ line h. fed_line_append line s (t ++ (10 ∷ [])) ∙ line_line 256 512 [] (fed_line line s) t on;
    }

pub fed_more : {long over : Bool} {s t img₀ img₁ img₂ out₀ out₁ out₂ : List ℕ} {at i j : ℕ} (u : List ℕ) → u ≡ s ++ (t ++ (10 ∷ [])) → NoEnd t
    → Fed long s img₀ img₁ out₀ out₁ at i over → Ended over t img₁ img₂ out₁ out₂ i j → Fed long u img₀ img₂ out₀ out₂ at j false
fed_more {long} {over} {s} {t} {img₀} {img₁} {img₂} {out₀} {out₁} {out₂} {at} {i} {j} u e on x y =
    rw e
    (record {
      answer = λ line h.
          let g = fed_line line s in
          reads
          (ap (λ (l : List ℕ). fed_text 256 512 (image_of img₀) line s ++ l)
          (ap (λ (ws : List ℕ). answer_of 256 512 ws (command_of (g ++ t))) (x.leaves.image line h).words
          ∙ sym (line_text_lem 256 512 (fed_image 256 512 (image_of img₀) line s) g t on))
          ∙ sym (fed_text_append 256 512 (image_of img₀) line s (t ++ (10 ∷ []))))
          (then (x.answer line h) (y.answer g (x.leaves.line line h)));
      leaves = piece_line on x.leaves y;
    })

-- ---- where answering stops

-- nothing was answered, or a line was; and before the last line that was answered there was room for the longest answer
pub record Stopped (long : Bool) (bytes img : List ℕ) (from at size behind : ℕ) (long' : Bool) : Type 0 where
  pub line : ((behind ≡ from) × (long' ≡ long)) ⊎ ((from < behind) × (get_or bytes (behind - 1) 0 ≡ 10) × (long' ≡ false))
  pub room : from < behind → (line : List ℕ) → Before long line
      → at + length (fed_text 256 512 (image_of img) line (part from (behind - 1) bytes)) + 16911 ≤ size

pub stopped_none : {long : Bool} {bytes img : List ℕ} {from at size : ℕ} → Stopped long bytes img from at size from long
stopped_none = record { line = inl (refl, refl); room = λ h. absurd (omega arith) }

pub stopped_more : {long over : Bool} {img₀ img₁ out₀ out₁ : List ℕ} {at place : ℕ} (bytes : List ℕ) (from start stop size : ℕ)
    → from ≤ start → start ≤ stop → get_or bytes stop 0 ≡ 10 → NoEnd (part start stop bytes) → place + 16911 ≤ size
    → Fed long (part from start bytes) img₀ img₁ out₀ out₁ at place over → Stopped long bytes img₀ from at size (stop + 1) false
stopped_more {long} {over} {img₀} {img₁} {out₀} {out₁} {at} {place} bytes from start stop size h k e on r x =
    record {
      line = inr (omega arith, rw one e, refl);
      room = λ p line b.
          let ws = image_of img₀ in
          let same : fed_text 256 512 ws line (part from (stop + 1 - 1) bytes) ≡ fed_text 256 512 ws line (part from start bytes) =
          rw (one, ← (part_append from start stop bytes h k))
          (fed_text_append 256 512 ws line (part from start bytes) (part start stop bytes)
          ∙ ap (λ (t : List ℕ). fed_text 256 512 ws line (part from start bytes) ++ t)
          (fed_text_on 256 512 (fed_image 256 512 ws line (part from start bytes)) (fed_line line (part from start bytes)) (part start stop bytes) on)
          ∙ append-nil (fed_text 256 512 ws line (part from start bytes))) in
          omega (arith, ap length same, (x.answer line b).place);
    }
  where
    one : stop + 1 - 1 ≡ stop
    one = omega arith

-- ---- what is held of the line that has begun

pub record Held (buf : List ℕ) (have : ℕ) (long : Bool) (line : List ℕ) : Type 0 where
  pub marked : long ≡ true → 80 < length line
  pub empty : long ≡ true → have ≡ 0
  pub front : long ≡ false → take have buf ≡ line

held_marked : (buf line : List ℕ) → 80 < length line → Held buf 0 true line
held_marked buf line h = record { marked = λ e. h; empty = λ e. refl; front = λ e. absurd (false≢true (sym e)) }

pub held_front : (buf : List ℕ) (have : ℕ) (line : List ℕ) → take have buf ≡ line → Held buf have false line
held_front buf have line h = record { marked = λ e. absurd (false≢true e); empty = λ e. absurd (false≢true e); front = λ e. h }

-- What is kept of the bytes from a place up to another, behind a line that is marked or not: nothing and the mark, or at most 80 bytes, which are moved to the front.
abbrev pub kept_of : Bool → ℕ → ℕ → Option ℕ
kept_of long from end = cond (long || ltb 80 (end - from)) None (Some (end - from))

abbrev pub kept_buffer : Bool → ℕ → ℕ → List ℕ → List ℕ
kept_buffer long from end buf = cond (long || ltb 80 (end - from)) buf (part from end buf ++ drop (end - from) buf)

-- so the line that has begun is held
pub keep_holds : (long : Bool) (from end : ℕ) (buf : List ℕ) → from ≤ end → end ≤ length buf → (line : List ℕ) → Before long line
    → Held (kept_buffer long from end buf) (unwrap_or (kept_of long from end) 0) (is_none (kept_of long from end)) (line ++ part from end buf)
keep_holds true from end buf h k line b = held_marked buf (line ++ part from end buf) (omega (arith, length-append line (part from end buf)))
keep_holds false from end buf h k line b = go (ltb 80 (end - from)) refl
  where
    go : (t : Bool) → ltb 80 (end - from) ≡ t
        → Held (cond t buf (part from end buf ++ drop (end - from) buf)) (unwrap_or (cond {A = Option ℕ} t None (Some (end - from))) 0)
        (is_none (cond {A = Option ℕ} t None (Some (end - from)))) (line ++ part from end buf)
    go true e =
        let many : 80 < end - from = ltb-true 80 (end - from) e in
        held_marked buf (line ++ part from end buf) (omega (arith, length-append line (part from end buf), part_length from end buf h k))
    go false e =
        held_front (part from end buf ++ drop (end - from) buf) (end - from) (line ++ part from end buf)
        (take_at (part from end buf) (drop (end - from) buf) (end - from) (part_length from end buf h k) ∙ rw b)

-- ---- the last line

-- a line that is marked is bad; of any other the bytes at the front are the whole
abbrev pub ending_text : ℕ → ℕ → Bool → List ℕ → List ℕ → List ℕ
ending_text m n long ws text = cond long bad_text (last_text m n ws text)

abbrev pub ending_image : ℕ → ℕ → Bool → List ℕ → List ℕ → List ℕ
ending_image m n long ws text = cond long ws (last_image m n ws text)

abbrev pub ending_kept : ℕ → ℕ → Bool → List ℕ → List ℕ → ℕ
ending_kept m n long ws text = cond long 1 (last_kept m n ws text)

module _ (m n : ℕ) (ws : List ℕ) where
  last_long : (line : List ℕ) → 80 < length line → (bad_text ≡ last_text m n ws line) × (ws ≡ last_image m n ws line) × (1 ≡ last_kept m n ws line)
  unfolding last_text last_image last_kept answer_of image_after kept_by
  last_long [] h = absurd (omega arith)
  last_long (b ∷ line) h = rw (long_bad (b ∷ line) h) (refl, refl, refl)

  last_some : (line : List ℕ) → 0 < length line
      → (answer_of m n ws (command_of line) ≡ last_text m n ws line)
      × (image_after m n ws (command_of line) ≡ last_image m n ws line)
      × (kept_by m n ws (command_of line) ≡ last_kept m n ws line)
  unfolding last_text last_image last_kept
  last_some [] h = absurd (omega arith)
  last_some (b ∷ line) h = (refl, refl, refl)

  -- what is held is the line that has begun
  pub held_ending : {buf : List ℕ} {have : ℕ} {long : Bool} {line : List ℕ} → Held buf have long line
      → (ending_text m n long ws (take have buf) ≡ last_text m n ws line)
      × (ending_image m n long ws (take have buf) ≡ last_image m n ws line)
      × (ending_kept m n long ws (take have buf) ≡ last_kept m n ws line)
  held_ending {buf} {have} {long} {line} x = go long x.marked x.front
    where
      go : (t : Bool) → (t ≡ true → 80 < length line) → (t ≡ false → take have buf ≡ line)
          → (ending_text m n t ws (take have buf) ≡ last_text m n ws line)
          × (ending_image m n t ws (take have buf) ≡ last_image m n ws line)
          × (ending_kept m n t ws (take have buf) ≡ last_kept m n ws line)
      go true h e = last_long line (h refl)
      go false h e = rw (e refl) (refl, refl, refl)

  -- marked; with bytes at the front, as a part; with none
  pub ending_long : (text : List ℕ) (long : Bool) → long ≡ true → (bad_text ≡ ending_text m n long ws text) × (ending_image m n long ws text ≡ ws)
  ending_long text long e = rw e (refl, refl)

  pub ending_front : (buf : List ℕ) (have : ℕ) (long : Bool) → long ≡ false → 0 < have → have ≤ length buf
      → (answer_of m n ws (command_of (part 0 have buf)) ≡ ending_text m n long ws (take have buf))
      × (image_after m n ws (command_of (part 0 have buf)) ≡ ending_image m n long ws (take have buf))
      × (kept_by m n ws (command_of (part 0 have buf)) ≡ ending_kept m n long ws (take have buf))
  ending_front buf have long e h k =
      let z : have - 0 ≡ have = omega arith in
      let some : 0 < length (take have buf) = omega (arith, length-take-le have buf k) in
      rw (z, e) (last_some (take have buf) some)

  pub ending_none : (buf : List ℕ) (have : ℕ) (long : Bool) → long ≡ false → have ≤ 0
      → ([] ≡ ending_text m n long ws (take have buf)) × (ending_image m n long ws (take have buf) ≡ ws)
  unfolding last_text last_image
  ending_none buf zero long e h = rw e (refl, refl)
  ending_none buf (suc have) long e h = absurd (omega arith)
