-- The program's lines over the words, one after the other: what a whole input is answered, byte by byte, is what the commands of its lines are answered one after the other, and so is the image behind it.
use Rattle.std.specs.Prelude.{◌≡◌, Bool, cond, ℕ, eqb}
use Rattle.std.proofs.Math.Path.{refl, sym, ap}
use Rattle.std.proofs.Common.{◌∙◌}
use mathlib.Core.List.{List, [], ◌∷◌, ◌++◌, map, append-nil, append_assoc}
use Rattle.std.proofs.Math.Bool.{true, false}
use Rattle.records.specs.Numbers.{place_index}
use Rattle.lookup.specs.Get.{addr_of}
use Rattle.insert.specs.Steps.{insert_image}
use Rattle.texts.specs.declared.Command.{Command}
use Rattle.texts.specs.declared.Command.TheVariants as command
use Rattle.texts.specs.Lines.{command_of}
use Rattle.commands.specs.Answers.{answer_of, image_after}
use Rattle.commands.specs.Session.{byte_text, byte_image, byte_line, fed_text, fed_image, fed_line, last_text, last_image, input_text, input_image}
use Rattle.accepted_commands.specs.Told.{last_line, lines_of, commands_in}

-- ---- over the words

-- The law of the index: that of the key's node, as `get_addr` gives it right after the insert.
abbrev pub index_of : ℕ → ℕ → List ℕ → Command → ℕ
index_of m n ws (command.Insert key v) = place_index (addr_of m n (insert_image m n ws key v) key)
index_of m n ws (command.Remove key) = 0
index_of m n ws (command.Get key) = 0
index_of m n ws (command.Write key v) = 0
index_of m n ws command.Smallest = 0
index_of m n ws command.Largest = 0
index_of m n ws command.All = 0
index_of m n ws command.Bad = 0

-- commands one after the other: what they are answered, the image behind them, and each with its index
abbrev pub answers_text : ℕ → ℕ → List ℕ → List Command → List ℕ
answers_text m n ws [] = []
answers_text m n ws (c ∷ cs) = answer_of m n ws c ++ answers_text m n (image_after m n ws c) cs

abbrev pub image_behind : ℕ → ℕ → List ℕ → List Command → List ℕ
image_behind m n ws [] = ws
image_behind m n ws (c ∷ cs) = image_behind m n (image_after m n ws c) cs

abbrev pub indexed : ℕ → ℕ → List ℕ → List Command → List (Command × ℕ)
indexed m n ws [] = []
indexed m n ws (c ∷ cs) = (c, index_of m n ws c) ∷ indexed m n (image_after m n ws c) cs

-- ---- an input is its lines

module _ (m n : ℕ) where
  last_line_lem : (ws line : List ℕ) → last_text m n ws line ≡ answers_text m n ws (map command_of (last_line line))
  unfolding last_text
  last_line_lem ws [] = refl
  last_line_lem ws (b ∷ line) = sym (append-nil (answer_of m n ws (command_of (b ∷ line))))

  last_behind : (ws line : List ℕ) → last_image m n ws line ≡ image_behind m n ws (map command_of (last_line line))
  unfolding last_image
  last_behind ws [] = refl
  last_behind ws (b ∷ line) = refl

  lines_text : (ws line bytes : List ℕ)
      → fed_text m n ws line bytes ++ last_text m n (fed_image m n ws line bytes) (fed_line line bytes) ≡ answers_text m n ws (map command_of (lines_of line bytes))
  unfolding fed_text fed_image fed_line byte_text byte_image byte_line
  lines_text ws line [] = last_line_lem ws line
  lines_text ws line (b ∷ bytes) = go (eqb b 10) (lines_text (image_after m n ws (command_of line)) [] bytes) (lines_text ws (line ++ (b ∷ [])) bytes)
    where
      go : (e : Bool)
          → fed_text m n (image_after m n ws (command_of line)) [] bytes ++ last_text m n (fed_image m n (image_after m n ws (command_of line)) [] bytes) (fed_line [] bytes)
          ≡ answers_text m n (image_after m n ws (command_of line)) (map command_of (lines_of [] bytes))
          → fed_text m n ws (line ++ (b ∷ [])) bytes ++ last_text m n (fed_image m n ws (line ++ (b ∷ [])) bytes) (fed_line (line ++ (b ∷ [])) bytes)
          ≡ answers_text m n ws (map command_of (lines_of (line ++ (b ∷ [])) bytes))
          → (cond e (answer_of m n ws (command_of line)) [] ++ fed_text m n (cond e (image_after m n ws (command_of line)) ws) (cond e [] (line ++ (b ∷ []))) bytes)
          ++ last_text m n (fed_image m n (cond e (image_after m n ws (command_of line)) ws) (cond e [] (line ++ (b ∷ []))) bytes) (fed_line (cond e [] (line ++ (b ∷ []))) bytes)
          ≡ answers_text m n ws (map command_of (cond e (line ∷ lines_of [] bytes) (lines_of (line ++ (b ∷ [])) bytes)))
      go true ended on =
          append_assoc (answer_of m n ws (command_of line)) (fed_text m n (image_after m n ws (command_of line)) [] bytes) _
          ∙ ap (λ (t : List ℕ). answer_of m n ws (command_of line) ++ t) ended
      go false ended on = on

  lines_image : (ws line bytes : List ℕ) → last_image m n (fed_image m n ws line bytes) (fed_line line bytes) ≡ image_behind m n ws (map command_of (lines_of line bytes))
  unfolding fed_image fed_line byte_image byte_line
  lines_image ws line [] = last_behind ws line
  lines_image ws line (b ∷ bytes) = go (eqb b 10) (lines_image (image_after m n ws (command_of line)) [] bytes) (lines_image ws (line ++ (b ∷ [])) bytes)
    where
      go : (e : Bool)
          → last_image m n (fed_image m n (image_after m n ws (command_of line)) [] bytes) (fed_line [] bytes) ≡ image_behind m n (image_after m n ws (command_of line)) (map command_of (lines_of [] bytes))
          → last_image m n (fed_image m n ws (line ++ (b ∷ [])) bytes) (fed_line (line ++ (b ∷ [])) bytes) ≡ image_behind m n ws (map command_of (lines_of (line ++ (b ∷ [])) bytes))
          → last_image m n (fed_image m n (cond e (image_after m n ws (command_of line)) ws) (cond e [] (line ++ (b ∷ []))) bytes) (fed_line (cond e [] (line ++ (b ∷ []))) bytes)
          ≡ image_behind m n ws (map command_of (cond e (line ∷ lines_of [] bytes) (lines_of (line ++ (b ∷ [])) bytes)))
      go true ended on = ended
      go false ended on = on

  -- what an input is answered, and the image behind it
  pub input_lines : (ws input : List ℕ) → input_text m n ws input ≡ answers_text m n ws (commands_in input)
  unfolding input_text
  input_lines ws input = lines_text ws [] input

  pub input_behind : (ws input : List ℕ) → input_image m n ws input ≡ image_behind m n ws (commands_in input)
  unfolding input_image
  input_behind ws input = lines_image ws [] input
