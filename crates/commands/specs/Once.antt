-- No second outcome fits: what `answer_lines` and `finish` promise leaves nothing open, neither the place where they stop nor a byte of the output or the image. (`keep` is promised by equations.)
use Rattle.std.specs.Prelude.{◌≡◌, ◌≢◌, ◌⊎◌, Bool, ℕ, ◌+◌, ◌-◌, ◌%◌, ◌<◌, ◌≤◌, length, get_or, take, eqb}
use Rattle.std.proofs.Math.Path.{refl, subst}
use Rattle.std.proofs.Common.{sym, ap, ◌∙◌, inl, inr, arith, length-append, ne_eqb}
use mathlib.Core.List.{List, [], ◌∷◌, ◌++◌}
use Rattle.std.proofs.Math.Bool.{true, false, cond}
use Rattle.std.proofs.Math.Decide.{ℕ_discrete}
use Rattle.words.specs.Words.{Bytes}
use Rattle.records.specs.Layout.{image_of}
use Rattle.inspection.specs.Tests.{shape_ok}
use Rattle.inspection.specs.Room.{shaped_whole}
use Rattle.inspection.specs.Outcome.{Leaves, one_outcome}
use Rattle.insert.specs.Promises.{insert_number, refusal_keeps}
use Rattle.remove.specs.Promises.{number_shape, refused_keeps}
use Rattle.lookup.specs.Promises.{set_numbers, set_kept}
use Rattle.texts.specs.declared.Command.{Command}
use Rattle.texts.specs.declared.Command.TheVariants as command
use Rattle.texts.specs.Put.{Written}
use Rattle.texts.specs.Lines.{command_of}
use Rattle.commands.specs.declared.pieces.Turn.{Turn}
use Rattle.commands.specs.Answers.{image_after, kept_by}
use Rattle.commands.specs.Session.{byte_image, byte_line, byte_kept, fed_text, fed_image, fed_line, fed_kept, last_kept, fed_text_append}
use Rattle.commands.specs.Pieces.{some_line, Fed, Stopped, part, part_append, ending_text, ending_image, ending_kept}

-- ---- a line that writes has found an image of the right shape, and one that does not leaves every word

module _ (m n : ℕ) where
  shaped : (ws : List ℕ) (k : ℕ) → (shape_ok m n (length ws) ≡ false → k ≡ 1) → k ≡ 0 → shape_ok m n (length ws) ≡ true
  shaped ws k f z = go (shape_ok m n (length ws)) refl
    where
      go : (t : Bool) → shape_ok m n (length ws) ≡ t → t ≡ true
      go true e = refl
      go false e = let one : k ≡ 1 = f e in absurd (omega arith)

  kept_shaped : (ws : List ℕ) (c : Command) → kept_by m n ws c ≡ 0 → shape_ok m n (length ws) ≡ true
  unfolding kept_by
  kept_shaped ws (command.Insert key v) z = shaped ws _ (insert_number m n ws key 1).1 z
  kept_shaped ws (command.Remove key) z = shaped ws _ (number_shape m n ws key).1 z
  kept_shaped ws (command.Get key) z = absurd (omega arith)
  kept_shaped ws (command.Write key v) z = shaped ws _ (set_numbers m n ws key).shape.1 z
  kept_shaped ws command.Smallest z = absurd (omega arith)
  kept_shaped ws command.Largest z = absurd (omega arith)
  kept_shaped ws command.All z = absurd (omega arith)
  kept_shaped ws command.Bad z = absurd (omega arith)

  kept_image : (ws : List ℕ) (c : Command) → kept_by m n ws c ≢ 0 → image_after m n ws c ≡ ws
  unfolding kept_by image_after
  kept_image ws (command.Insert key v) d = refusal_keeps m n ws key v d
  kept_image ws (command.Remove key) d = refused_keeps m n ws key d
  kept_image ws (command.Get key) d = refl
  kept_image ws (command.Write key v) d = set_kept m n ws key v d
  kept_image ws command.Smallest d = refl
  kept_image ws command.Largest d = refl
  kept_image ws command.All d = refl
  kept_image ws command.Bad d = refl

  byte_shaped : (ws line : List ℕ) (b : ℕ) → byte_kept m n ws line b ≡ 0 → shape_ok m n (length ws) ≡ true
  unfolding byte_kept
  byte_shaped ws line b = go (eqb b 10)
    where
      go : (t : Bool) → cond t (kept_by m n ws (command_of line)) 1 ≡ 0 → shape_ok m n (length ws) ≡ true
      go true z = kept_shaped ws (command_of line) z
      go false z = absurd (omega arith)

  byte_image_lem : (ws line : List ℕ) (b : ℕ) → byte_kept m n ws line b ≢ 0 → byte_image m n ws line b ≡ ws
  unfolding byte_kept byte_image
  byte_image_lem ws line b = go (eqb b 10)
    where
      go : (t : Bool) → cond t (kept_by m n ws (command_of line)) 1 ≢ 0 → cond t (image_after m n ws (command_of line)) ws ≡ ws
      go true d = kept_image ws (command_of line) d
      go false d = refl

  -- the first line that writes finds the image as it was
  fed_shaped : (ws line bytes : List ℕ) → fed_kept m n ws line bytes ≡ 0 → shape_ok m n (length ws) ≡ true
  unfolding fed_kept
  fed_shaped ws line [] z = absurd (omega arith)
  fed_shaped ws line (b ∷ bytes) z = go (ℕ_discrete (byte_kept m n ws line b) 0) (fed_shaped (byte_image m n ws line b) (byte_line line b) bytes)
    where
      go : Dec (byte_kept m n ws line b ≡ 0)
          → (fed_kept m n (byte_image m n ws line b) (byte_line line b) bytes ≡ 0 → shape_ok m n (length (byte_image m n ws line b)) ≡ true)
          → shape_ok m n (length ws) ≡ true
      go (yes e) rest = byte_shaped ws line b e
      go (no d) rest =
          subst (λ (l : List ℕ). shape_ok m n (length l) ≡ true) (byte_image_lem ws line b d)
          (rest (sym (ap (λ (t : Bool). cond t 0 (fed_kept m n (byte_image m n ws line b) (byte_line line b) bytes)) (ne_eqb (byte_kept m n ws line b) 0 d)) ∙ z))

  ending_shaped : (long : Bool) (ws text : List ℕ) → ending_kept m n long ws text ≡ 0 → shape_ok m n (length ws) ≡ true
  unfolding last_kept
  ending_shaped true ws text z = absurd (omega arith)
  ending_shaped false ws [] z = absurd (omega arith)
  ending_shaped false ws (b ∷ text) z = kept_shaped ws (command_of (b ∷ text)) z

-- ---- answer_lines

-- what its contract allows: the turn, and the bytes of the image and of the output afterwards
pub record AllowedLines (buf : List ℕ) (from end : ℕ) (long : Bool) (img out : List ℕ) (at : ℕ) (turn : Turn) (img' out' : List ℕ) : Type 0 where
  pub within : (from ≤ turn.from) × (turn.from ≤ end) × (turn.at ≤ length out)
  pub lines : Fed long (part from turn.from buf) img img' out out' at turn.at turn.long
  pub stopped : Stopped long buf img from at (length out) turn.from turn.long
  pub left : turn.at + 16911 ≤ length out → (k : ℕ) → turn.from ≤ k → k < end → get_or buf k 0 ≡ 10 → ⊥
  pub bytes : Bytes img'
  pub size : length img' ≡ length img

module _ {buf : List ℕ} {from end : ℕ} {long : Bool} {img out : List ℕ} {at : ℕ} {r s : Turn} {a b o p : List ℕ} where
  -- where one goes on, another does not stop: there is room, and an LF
  no_later : AllowedLines buf from end long img out at r a o → AllowedLines buf from end long img out at s b p → r.from < s.from → ⊥
  no_later x y h = go y.stopped.line
    where
      go : ((s.from ≡ from) × (s.long ≡ long)) ⊎ ((from < s.from) × (get_or buf (s.from - 1) 0 ≡ 10) × (s.long ≡ false)) → ⊥
      go (inl e) = omega (arith, x.within.0, e.0)
      go (inr e) =
          let line = (some_line long).0 in
          let text = fed_text 256 512 (image_of img) line (part from r.from buf) in
          let more = fed_text 256 512 (fed_image 256 512 (image_of img) line (part from r.from buf)) (fed_line line (part from r.from buf)) (part r.from (s.from - 1) buf) in
          let all : fed_text 256 512 (image_of img) line (part from (s.from - 1) buf) ≡ text ++ more =
          ap (fed_text 256 512 (image_of img) line) (sym (part_append from r.from (s.from - 1) buf x.within.0 (omega arith)))
          ∙ fed_text_append 256 512 (image_of img) line (part from r.from buf) (part r.from (s.from - 1) buf) in
          let room : r.at + 16911 ≤ length out =
          omega (arith, (x.lines.answer line (some_line long).1).place, y.stopped.room e.0 line (some_line long).1, ap length all, length-append text more) in
          x.left room (s.from - 1) (omega arith) (omega (arith, y.within.1)) e.1

-- whether the line that has begun is marked follows from the place
same_mark : {buf img : List ℕ} {from at size behind : ℕ} {long j k : Bool} → Stopped long buf img from at size behind j → Stopped long buf img from at size behind k → j ≡ k
same_mark {buf} {img} {from} {at} {size} {behind} {long} {j} {k} x y = go x.line y.line
  where
    go : ((behind ≡ from) × (j ≡ long)) ⊎ ((from < behind) × (get_or buf (behind - 1) 0 ≡ 10) × (j ≡ false))
        → ((behind ≡ from) × (k ≡ long)) ⊎ ((from < behind) × (get_or buf (behind - 1) 0 ≡ 10) × (k ≡ false)) → j ≡ k
    go (inl e) (inl f) = e.1 ∙ sym f.1
    go (inl e) (inr f) = absurd (omega (arith, e.0, f.0))
    go (inr e) (inl f) = absurd (omega (arith, e.0, f.0))
    go (inr e) (inr f) = e.2 ∙ sym f.2

pub answered_once : {buf : List ℕ} {from end : ℕ} {long : Bool} {img out : List ℕ} {at : ℕ} {r s : Turn} {a b o p : List ℕ}
    → AllowedLines buf from end long img out at r a o → AllowedLines buf from end long img out at s b p → (r ≡ s) × (a ≡ b) × (o ≡ p)
answered_once {buf} {from} {end} {long} {img} {out} {at} {r} {s} {a} {b} {o} {p} x y =
    let before : r.from < s.from → ⊥ = no_later x y in
    let behind : s.from < r.from → ⊥ = no_later y x in
    let here : s.from ≡ r.from = omega arith in
    let line = (some_line long).0 in
    let begun = (some_line long).1 in
    let read = part from r.from buf in
    let lines : Fed long read img b out p at s.at s.long = subst (λ (k : ℕ). Fed long (part from k buf) img b out p at s.at s.long) here y.lines in
    let place : r.at ≡ s.at = (x.lines.answer line begun).place ∙ sym (lines.answer line begun).place in
    let mark : r.long ≡ s.long = same_mark x.stopped (subst (λ (k : ℕ). Stopped long buf img from at (length out) k s.long) here y.stopped) in
    let whole : fed_kept 256 512 (image_of img) line read ≡ 0 → length img % 4 ≡ 0 =
    λ z. shaped_whole 256 512 img (fed_shaped 256 512 (image_of img) line read z) in (
      λ ι. record { from = sym here ι; at = place ι; long = mark ι },
      one_outcome whole x.bytes y.bytes x.size y.size (x.lines.leaves.image line begun) (lines.leaves.image line begun),
      (x.lines.answer line begun).bytes ∙ sym (lines.answer line begun).bytes,
    )

-- ---- finish

pub record AllowedEnd (buf : List ℕ) (have : ℕ) (long : Bool) (img out : List ℕ) (at behind : ℕ) (img' out' : List ℕ) : Type 0 where
  pub text : Written out out' at behind (ending_text 256 512 long (image_of img) (take have buf))
  pub image : Leaves img img' (ending_kept 256 512 long (image_of img) (take have buf)) (ending_image 256 512 long (image_of img) (take have buf))
  pub bytes : Bytes img'
  pub size : length img' ≡ length img

pub finished_once : {buf : List ℕ} {have : ℕ} {long : Bool} {img out : List ℕ} {at r s : ℕ} {a b o p : List ℕ}
    → AllowedEnd buf have long img out at r a o → AllowedEnd buf have long img out at s b p → (r ≡ s) × (a ≡ b) × (o ≡ p)
finished_once {buf} {have} {long} {img} {out} {at} {r} {s} {a} {b} {o} {p} x y =
    let whole : ending_kept 256 512 long (image_of img) (take have buf) ≡ 0 → length img % 4 ≡ 0 =
    λ z. shaped_whole 256 512 img (ending_shaped 256 512 long (image_of img) (take have buf) z) in (
      x.text.place ∙ sym y.text.place,
      one_outcome whole x.bytes y.bytes x.size y.size x.image y.image,
      x.text.bytes ∙ sym y.text.bytes,
    )
