-- A text that is fed piece by piece: each piece is copied behind what is held, the lines that end in it are answered, and what has begun is kept.
use Rattle.std.specs.Prelude.{◌≡◌, ℕ, ◌+◌, ◌-◌, ◌%◌, ◌<◌, ◌≤◌, Bool, true, false, cond, List, [], ◌∷◌, ◌++◌, length, take, replicate, ◌==◌, ◌≢◌, slice_index, refl, Option, is_none, unwrap_or, Result, IfOk}
use Rattle.std.proofs.Common.{sym, ap, subst, ◌∙◌, append_assoc, append-nil, arith, take_at, length-append, length-take-le}
use Rattle.std.proofs.Math.Seq.{take-append-add, take-length}
use Rattle.std.proofs.lemmas.List.{take-append-le}
use Rattle.words.specs.Words.{words}
use Rattle.records.specs.Layout.{image_of}
use Rattle.inspection.specs.Outcome.{Leaves}
use Rattle.lookup.specs.Start.{start_image}
use Rattle.texts.specs.Put.{Written}
use Rattle.commands.specs.Session.{fed_text, fed_image, fed_kept, input_text, input_image, input_kept}
use Rattle.commands.specs.Pieces.{Fed, part, part_front, kept_of, kept_buffer, ending_text, ending_image, ending_kept}
use Rattle.commands.specs.Feeding.{Sofar, sofar_more, sofar_part, sofar_last}

-- the piece is copied behind what is held: `new` is the rest of the buffer with the piece at its front
pub laid : (buf piece new rest behind : List ℕ) (have many : ℕ) → have ≤ length buf → length piece ≡ many → new ≡ take (length piece) piece ++ rest
    → part 0 (have + many) (take have buf ++ (new ++ behind)) ≡ take have buf ++ piece
laid buf piece new rest behind have many h long e =
    let held : length (take have buf) ≡ have = length-take-le have buf h in
    part_front (have + many) (take have buf ++ (new ++ behind))
    ∙ ap (λ (k : ℕ). take (k + many) (take have buf ++ (new ++ behind))) (sym held)
    ∙ take-append-add (take have buf) (new ++ behind) many
    ∙ ap (λ (l : List ℕ). take have buf ++ l)
    (ap (λ (l : List ℕ). take many (l ++ behind)) (e ∙ ap (λ (l : List ℕ). l ++ rest) (take-length piece))
    ∙ ap (take many) (append_assoc piece rest behind)
    ∙ take_at piece (rest ++ behind) many long)

module _ {bytes before img₁ out out₁ buf : List ℕ} {have at : ℕ} {long : Bool} (piece : List ℕ)
    (x : Sofar bytes before img₁ out out₁ buf have long at) (wide : List ℕ) (is : part 0 (have + length piece) wide ≡ take have buf ++ piece) where
  -- the whole piece
  pub feed_more : {img₂ out₂ : List ℕ} {at₂ : ℕ} {long₂ : Bool} (j : ℕ) (kept : Option ℕ) (buf' : List ℕ) → j ≤ have + length piece → have + length piece ≤ length wide
      → ((k : ℕ) → j ≤ k → k < have + length piece → slice_index wide k ≢ 10) → Fed long (part 0 j wide) img₁ img₂ out₁ out₂ at at₂ long₂
      → kept ≡ kept_of long₂ j (have + length piece) → buf' ≡ kept_buffer long₂ j (have + length piece) wide
      → Sofar (bytes ++ piece) before img₂ out out₂ buf' (unwrap_or kept 0) (is_none kept) at₂
  feed_more j kept buf' h k none y e f = rw (e, f) (sofar_more x piece wide j (have + length piece) is h k none y)

  -- so much of it as there is room for
  pub feed_part : {img₂ out₂ : List ℕ} {at₂ : ℕ} {long₂ : Bool} (text rest : List ℕ) (j : ℕ) → text ≡ bytes ++ (piece ++ rest) → have ≤ length buf → j ≤ have + length piece
      → Fed long (part 0 j wide) img₁ img₂ out₁ out₂ at at₂ long₂
      → (k : ℕ) × (k ≤ length text) × Written out out₂ 0 at₂ (fed_text 256 512 (image_of before) [] (take k text))
      × Leaves before img₂ (fed_kept 256 512 (image_of before) [] (take k text)) (fed_image 256 512 (image_of before) [] (take k text))
  feed_part {img₂} {out₂} {at₂} {long₂} text rest j whole room h y =
      let n = j - have in
      let some : bytes ++ take n piece ≡ take (length bytes + n) text =
      ap (λ (l : List ℕ). bytes ++ l) (sym (take-append-le n piece rest (omega arith))) ∙ sym (take-append-add bytes (piece ++ rest) n) ∙ ap (take (length bytes + n)) (sym whole) in
      let said = sofar_part x piece wide j (have + length piece) is (length-take-le have buf room) h y in (
        length bytes + n,
        omega (arith, ap length whole, length-append bytes (piece ++ rest), length-append piece rest),
        subst (λ (l : List ℕ). Written out out₂ 0 at₂ (fed_text 256 512 (image_of before) [] l)) some said.0,
        subst (λ (l : List ℕ). Leaves before img₂ (fed_kept 256 512 (image_of before) [] l) (fed_image 256 512 (image_of before) [] l)) some said.1,
      )

-- the last line
pub feed_last : {bytes before img₁ img₂ out out₁ out₂ buf : List ℕ} {have at at₂ : ℕ} {long : Bool} (text rest : List ℕ) → text ≡ bytes ++ rest → length rest ≡ 0
    → Sofar bytes before img₁ out out₁ buf have long at
    → Written out₁ out₂ at at₂ (ending_text 256 512 long (image_of img₁) (take have buf))
    → Leaves img₁ img₂ (ending_kept 256 512 long (image_of img₁) (take have buf)) (ending_image 256 512 long (image_of img₁) (take have buf))
    → Written out out₂ 0 at₂ (input_text 256 512 (image_of before) text)
    × Leaves before img₂ (input_kept 256 512 (image_of before) text) (input_image 256 512 (image_of before) text)
feed_last {bytes} {before} {img₁} {img₂} {out} {out₁} {out₂} {buf} {have} {at} {at₂} {long} text [] e h x w l =
    rw (e, append-nil) (sofar_last x w l)
feed_last text (b ∷ rest) e h x w l = absurd (omega arith)

-- ---- a run on a new map

-- a buffer of which every word is 0 holds as many words as it did
cleared : (a b : List ℕ) → length b ≡ length a → words b ≡ replicate (length (words a)) 0 → image_of b ≡ replicate (length (image_of a)) 0
unfolding image_of
cleared a b long e = rw (long, e) (go (length a % 4 == 0))
  where
    go : (t : Bool) → cond t (replicate {A = ℕ} (length (words a)) 0) [] ≡ replicate (length (cond t (words a) [])) 0
    go true = refl
    go false = refl

pub on_new : {E : Type 0} {img₁ img₂ : List ℕ} {number : ℕ} (result : Result ℕ E) (img text out out' : List ℕ) → length img₁ ≡ length img → words img₁ ≡ replicate (length (words img)) 0
    → Leaves img₁ img₂ number (start_image 256 512 (image_of img₁)) → IfOk result (λ at. Written out out' 0 at (input_text 256 512 (image_of img₂) text))
    → IfOk result (λ at. Written out out' 0 at (input_text 256 512 (start_image 256 512 (replicate (length (image_of img)) 0)) text))
on_new {E} {img₁} {img₂} {number} result img text out out' long zeros x y =
    subst (λ (ws : List ℕ). IfOk result (λ at. Written out out' 0 at (input_text 256 512 ws text))) (x.words ∙ ap (start_image 256 512) (cleared img img₁ long zeros)) y
