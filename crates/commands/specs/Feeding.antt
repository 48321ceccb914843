-- One piece after the other, from what `answer_lines`, `keep` and `finish` promise: behind each piece the bytes so far are fed and the line that has begun is held, and behind the last line the
-- whole input is answered.
use Rattle.std.specs.Prelude.{◌≡◌, refl, ◌≢◌, Bool, true, false, ℕ, zero, suc, ◌+◌, ◌-◌, ◌<◌, ◌≤◌, length, get_or, take, leb, is_none, unwrap_or}
use Rattle.std.proofs.Common.{sym, ap, subst, ◌∙◌, arith, take-take, eq-eqb, ne_eqb, leb-true, leb-false}
use mathlib.Core.List.{List, [], ◌∷◌, ◌++◌, append-nil}
use Rattle.std.proofs.Math.Decide.{ℕ_discrete}
use Rattle.std.proofs.Math.Seq.{take-append-add}
use Rattle.std.proofs.lemmas.List.{take-append-le}
use Rattle.records.specs.Layout.{image_of}
use Rattle.inspection.specs.Outcome.{Leaves, left_alone}
use Rattle.texts.specs.Put.{Written, then, nothing, reads}
use Rattle.commands.specs.Session.{byte_line, fed_text, fed_image, fed_line, fed_kept, either, input_text, input_image, input_kept, fed_text_append, fed_image_append, fed_line_append, fed_kept_append, fed_kept_one}
use Rattle.commands.specs.Pieces.{Before, some_line, NoEnd, PieceLeaves, Fed, Held, part, part_append, part_front, no_end_part, fed_text_on, fed_image_on, fed_line_on, fed_kept_on, leaves_as, leaves_then, kept_of, kept_buffer, keep_holds, held_front, ending_text, ending_image, ending_kept, held_ending}

-- ---- a line that has begun has no LF

no_end_byte : (line : List ℕ) (b : ℕ) → NoEnd line → NoEnd (byte_line line b)
unfolding byte_line
no_end_byte line b on = go (ℕ_discrete b 10)
  where
    behind : (s : List ℕ) → NoEnd s → b ≢ 10 → NoEnd (s ++ (b ∷ []))
    behind [] e d = (d, tt)
    behind (x ∷ s) e d = (e.0, behind s e.1 d)

    go : Dec (b ≡ 10) → NoEnd (byte_line line b)
    go (yes e) = rw (eq-eqb b 10 e) tt
    go (no d) = rw (ne_eqb b 10 d) (behind line on d)

pub no_end_line : (line bytes : List ℕ) → NoEnd line → NoEnd (fed_line line bytes)
unfolding fed_line
no_end_line line [] on = on
no_end_line line (b ∷ bytes) on = no_end_line (byte_line line b) bytes (no_end_byte line b on)

no_end_take : (k : ℕ) (bytes : List ℕ) → NoEnd bytes → NoEnd (take k bytes)
no_end_take zero bytes on = tt
no_end_take (suc k) [] on = tt
no_end_take (suc k) (b ∷ bytes) on = (on.0, no_end_take k bytes on.1)

-- ---- the same lines, fed from two places

-- what is read behind the bytes that went before is answered as the piece is behind the line
record Alike (ws first read line piece : List ℕ) : Type 0 where
  text : fed_text 256 512 ws first read ≡ fed_text 256 512 ws line piece
  image : fed_image 256 512 ws first read ≡ fed_image 256 512 ws line piece
  kept : fed_kept 256 512 ws first read ≡ fed_kept 256 512 ws line piece

-- the rest of what is read has no LF, and the front has none
module _ (first front piece read rest : List ℕ) (on : NoEnd front) (off : NoEnd rest) (e : read ++ rest ≡ front ++ piece) where
  alike_line : fed_line first read ++ rest ≡ fed_line (first ++ front) piece
  alike_line =
      sym (fed_line_on (fed_line first read) rest off)
      ∙ sym (fed_line_append first read rest)
      ∙ ap (fed_line first) e
      ∙ fed_line_append first front piece
      ∙ ap (λ (l : List ℕ). fed_line l piece) (fed_line_on first front on)

  alike : (ws : List ℕ) → Alike ws first read (first ++ front) piece
  alike ws =
      let image = fed_image 256 512 ws first read in
      let line = fed_line first read in
      record {
        text =
            sym (append-nil (fed_text 256 512 ws first read))
            ∙ ap (λ (l : List ℕ). fed_text 256 512 ws first read ++ l) (sym (fed_text_on 256 512 image line rest off))
            ∙ sym (fed_text_append 256 512 ws first read rest)
            ∙ ap (fed_text 256 512 ws first) e
            ∙ fed_text_append 256 512 ws first front piece
            ∙ rw (fed_text_on 256 512 ws first front on, fed_image_on 256 512 ws first front on, fed_line_on first front on);
        image =
            sym (fed_image_on 256 512 image line rest off)
            ∙ sym (fed_image_append 256 512 ws first read rest)
            ∙ ap (fed_image 256 512 ws first) e
            ∙ fed_image_append 256 512 ws first front piece
            ∙ rw (fed_image_on 256 512 ws first front on, fed_line_on first front on);
        kept =
            sym (fed_kept_one 256 512 ws first read)
            ∙ ap (either (fed_kept 256 512 ws first read)) (sym (fed_kept_on 256 512 image line rest off))
            ∙ sym (fed_kept_append 256 512 ws first read rest)
            ∙ ap (fed_kept 256 512 ws first) e
            ∙ fed_kept_append 256 512 ws first front piece
            ∙ rw (fed_kept_on 256 512 ws first front on, fed_image_on 256 512 ws first front on, fed_line_on first front on);
      }

-- so many bytes of the front and the piece behind it
alike_some : (ws first front piece : List ℕ) (j have : ℕ) → length front ≡ have → NoEnd front
    → Alike ws first (take j (front ++ piece)) (first ++ front) (take (j - have) piece)
unfolding fed_text fed_image fed_kept
alike_some ws first front piece j have long on = go (leb j have) refl
  where
    go : (t : Bool) → leb j have ≡ t → Alike ws first (take j (front ++ piece)) (first ++ front) (take (j - have) piece)
    go true e =
        let h : j ≤ have = leb-true j have e in
        let none : j - have ≡ 0 = omega arith in
        let few : NoEnd (take j front) = no_end_take j front on in
        rw (none, take-append-le j front piece (omega arith))
        (record {
          text = fed_text_on 256 512 ws first (take j front) few;
          image = fed_image_on 256 512 ws first (take j front) few;
          kept = fed_kept_on 256 512 ws first (take j front) few;
        })
    go false e =
        let h : have < j = leb-false j have e in
        let far : j ≡ length front + (j - have) = omega arith in
        let cut : take j (front ++ piece) ≡ front ++ take (j - have) piece =
        ap (λ (k : ℕ). take k (front ++ piece)) far ∙ take-append-add front piece (j - have) in
        alike first front (take (j - have) piece) (take j (front ++ piece)) [] on tt (append-nil (take j (front ++ piece)) ∙ cut) ws

-- ---- the bytes so far

pub record Sofar (bytes before after out out' buf : List ℕ) (have : ℕ) (long : Bool) (at : ℕ) : Type 0 where
  pub held : Held buf have long (fed_line [] bytes)
  pub text : Written out out' 0 at (fed_text 256 512 (image_of before) [] bytes)
  pub image : Leaves before after (fed_kept 256 512 (image_of before) [] bytes) (fed_image 256 512 (image_of before) [] bytes)

pub sofar_none : {img out buf : List ℕ} → Sofar [] img img out out buf 0 false 0
unfolding fed_text fed_image fed_kept fed_line
sofar_none {img} {out} {buf} = record { held = held_front buf 0 [] refl; text = nothing; image = left_alone refl }

-- the line that has begun, as it is held: bytes that went before, none or more than 80, and what stands at the front
record Begun (buf : List ℕ) (have : ℕ) (long : Bool) (line : List ℕ) : Type 0 where
  first : List ℕ
  before : Before long first
  whole : first ++ take have buf ≡ line
  on : NoEnd (take have buf)

begun : {buf : List ℕ} {have : ℕ} {long : Bool} {line : List ℕ} → NoEnd line → Held buf have long line → Begun buf have long line
begun {buf} {have} {long} {line} on x = go long x.marked x.empty x.front
  where
    go : (t : Bool) → (t ≡ true → 80 < length line) → (t ≡ true → have ≡ 0) → (t ≡ false → take have buf ≡ line) → Begun buf have t line
    go true h z f =
        let none : take have buf ≡ [] = rw (z refl) in
        record { first = line; before = h refl; whole = rw none (append-nil line); on = subst NoEnd (sym none) tt }
    go false h z f = record { first = []; before = refl; whole = f refl; on = subst NoEnd (sym (f refl)) on }

module _ {bytes before img₁ out out₁ buf : List ℕ} {have at : ℕ} {long : Bool} (x : Sofar bytes before img₁ out out₁ buf have long at) where
  hold : Begun buf have long (fed_line [] bytes)
  hold = begun (no_end_line [] bytes tt) x.held

  -- what is read is fed behind the bytes so far
  fed_behind : {img₂ out₂ : List ℕ} {at₂ : ℕ} {long₂ : Bool} (read piece : List ℕ) → ((ws : List ℕ) → Alike ws hold.first read (hold.first ++ take have buf) piece)
      → Fed long read img₁ img₂ out₁ out₂ at at₂ long₂
      → Written out out₂ 0 at₂ (fed_text 256 512 (image_of before) [] (bytes ++ piece))
      × Leaves before img₂ (fed_kept 256 512 (image_of before) [] (bytes ++ piece)) (fed_image 256 512 (image_of before) [] (bytes ++ piece))
  fed_behind {img₂} {out₂} {at₂} {long₂} read piece same y =
      let ws = fed_image 256 512 (image_of before) [] bytes in
      let line = fed_line [] bytes in
      let a : Alike ws hold.first read line piece = subst (λ (l : List ℕ). Alike ws hold.first read l piece) hold.whole (same ws) in
      let is : image_of img₁ ≡ ws = x.image.words in (
        reads
            (ap (λ (t : List ℕ). fed_text 256 512 (image_of before) [] bytes ++ t) (ap (λ (u : List ℕ). fed_text 256 512 u hold.first read) is ∙ a.text)
            ∙ sym (fed_text_append 256 512 (image_of before) [] bytes piece))
            (then x.text (y.answer hold.first hold.before)),
        leaves_as
            (ap (either (fed_kept 256 512 (image_of before) [] bytes)) (ap (λ (u : List ℕ). fed_kept 256 512 u hold.first read) is ∙ a.kept)
            ∙ sym (fed_kept_append 256 512 (image_of before) [] bytes piece))
            (ap (λ (u : List ℕ). fed_image 256 512 u hold.first read) is ∙ a.image ∙ sym (fed_image_append 256 512 (image_of before) [] bytes piece))
            (leaves_then x.image (y.leaves.image hold.first hold.before)),
      )

  -- a whole piece: `wide` is the buffer with the piece behind what is held, and no LF is left in it
  pub sofar_more : {img₂ out₂ : List ℕ} {at₂ : ℕ} {long₂ : Bool} (piece wide : List ℕ) (j end : ℕ) → part 0 end wide ≡ take have buf ++ piece → j ≤ end → end ≤ length wide
      → ((k : ℕ) → j ≤ k → k < end → get_or wide k 0 ≡ 10 → ⊥) → Fed long (part 0 j wide) img₁ img₂ out₁ out₂ at at₂ long₂
      → Sofar (bytes ++ piece) before img₂ out out₂ (kept_buffer long₂ j end wide) (unwrap_or (kept_of long₂ j end) 0) (is_none (kept_of long₂ j end)) at₂
  sofar_more {img₂} {out₂} {at₂} {long₂} piece wide j end laid h k none y =
      let off = no_end_part wide j end h k none in
      let cut : part 0 j wide ++ part j end wide ≡ take have buf ++ piece = part_append 0 j end wide (omega arith) h ∙ laid in
      let said = fed_behind (part 0 j wide) piece (alike hold.first (take have buf) piece (part 0 j wide) (part j end wide) hold.on off cut) y in
      let line : fed_line hold.first (part 0 j wide) ++ part j end wide ≡ fed_line [] (bytes ++ piece) =
      alike_line hold.first (take have buf) piece (part 0 j wide) (part j end wide) hold.on off cut
      ∙ ap (λ (l : List ℕ). fed_line l piece) hold.whole
      ∙ sym (fed_line_append [] bytes piece) in
      record {
        held =
            subst (λ (l : List ℕ). Held (kept_buffer long₂ j end wide) (unwrap_or (kept_of long₂ j end) 0) (is_none (kept_of long₂ j end)) l) line
            (keep_holds long₂ j end wide h k (fed_line hold.first (part 0 j wide)) (y.leaves.line hold.first hold.before));
        text = said.0;
        image = said.1;
      }

  -- a piece of which so much is answered as the output has room for
  pub sofar_part : {img₂ out₂ : List ℕ} {at₂ : ℕ} {long₂ : Bool} (piece wide : List ℕ) (j end : ℕ) → part 0 end wide ≡ take have buf ++ piece → length (take have buf) ≡ have → j ≤ end
      → Fed long (part 0 j wide) img₁ img₂ out₁ out₂ at at₂ long₂
      → Written out out₂ 0 at₂ (fed_text 256 512 (image_of before) [] (bytes ++ take (j - have) piece))
      × Leaves before img₂ (fed_kept 256 512 (image_of before) [] (bytes ++ take (j - have) piece)) (fed_image 256 512 (image_of before) [] (bytes ++ take (j - have) piece))
  sofar_part piece wide j end laid long h y =
      let cut : part 0 j wide ≡ take j (take have buf ++ piece) =
      part_front j wide ∙ sym (take-take j end wide h) ∙ ap (take j) (sym (part_front end wide) ∙ laid) in
      fed_behind (part 0 j wide) (take (j - have) piece)
      (λ ws. subst (λ (l : List ℕ). Alike ws hold.first l (hold.first ++ take have buf) (take (j - have) piece)) (sym cut)
      (alike_some ws hold.first (take have buf) piece j have long hold.on))
      y

  -- the last line
  pub sofar_last : {img₂ out₂ : List ℕ} {at₂ : ℕ} → Written out₁ out₂ at at₂ (ending_text 256 512 long (image_of img₁) (take have buf))
      → Leaves img₁ img₂ (ending_kept 256 512 long (image_of img₁) (take have buf)) (ending_image 256 512 long (image_of img₁) (take have buf))
      → Written out out₂ 0 at₂ (input_text 256 512 (image_of before) bytes)
      × Leaves before img₂ (input_kept 256 512 (image_of before) bytes) (input_image 256 512 (image_of before) bytes)
  unfolding input_text input_image input_kept
  sofar_last w l =
      let ws = fed_image 256 512 (image_of before) [] bytes in
      let is : image_of img₁ ≡ ws = x.image.words in
      let said = held_ending 256 512 ws x.held in (
        then x.text (reads (ap (λ (u : List ℕ). ending_text 256 512 long u (take have buf)) is ∙ said.0) w),
        leaves_then x.image
            (leaves_as (ap (λ (u : List ℕ). ending_kept 256 512 long u (take have buf)) is ∙ said.2) (ap (λ (u : List ℕ). ending_image 256 512 long u (take have buf)) is ∙ said.1) l),
      )

-- ---- one after the other, where the answers are taken away in between

pub piece_more : {long over over₂ : Bool} {s t img₀ img₁ img₂ : List ℕ} (u : List ℕ) → s ++ t ≡ u
    → PieceLeaves long s img₀ img₁ over → PieceLeaves over t img₁ img₂ over₂ → PieceLeaves long u img₀ img₂ over₂
piece_more {long} {over} {over₂} {s} {t} {img₀} {img₁} {img₂} u e x y =
    subst (λ (l : List ℕ). PieceLeaves long l img₀ img₂ over₂) e
    (record {
      image = λ line h.
          let g = fed_line line s in
          leaves_as (sym (fed_kept_append 256 512 (image_of img₀) line s t)) (sym (fed_image_append 256 512 (image_of img₀) line s t))
          (leaves_then (x.image line h)
          (subst (λ (ws : List ℕ). Leaves img₁ img₂ (fed_kept 256 512 ws g t) (fed_image 256 512 ws g t)) (x.image line h).words (y.image g (x.line line h))));
      line = λ line h. subst (Before over₂) (sym (fed_line_append line s t)) (y.line (fed_line line s) (x.line line h));
    })

-- where something was answered, a byte was read
pub fed_moves : {long over : Bool} {img img' out out' : List ℕ} {at behind : ℕ} (bytes : List ℕ) (from j : ℕ) → from ≤ j → at < behind
    → Fed long (part from j bytes) img img' out out' at behind over → from < j
unfolding fed_text
fed_moves {long} {over} {img} {img'} {out} {out'} {at} {behind} bytes from j h k x = go (leb j from) refl
  where
    place : behind ≡ at + length (fed_text 256 512 (image_of img) (some_line long).0 (part from j bytes))
    place = (x.answer (some_line long).0 (some_line long).1).place

    go : (t : Bool) → leb j from ≡ t → from < j
    go true e =
        let l : j ≤ from = leb-true j from e in
        let none : part from j bytes ≡ [] = let z : j - from ≡ 0 = omega arith in rw z in
        absurd (omega (arith, place, ap (λ (b : List ℕ). length (fed_text 256 512 (image_of img) (some_line long).0 b)) none))
    go false e = leb-false j from e
