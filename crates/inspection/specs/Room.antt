-- What an opened image gives: it is a whole number of words, as many as M and N ask for, and it has room for every record below a bump.
use Rattle.std.specs.Prelude.{◌≡◌, refl, List, [], Bool, true, false, cond, ◌&&◌, ℕ, ◌+◌, ◌*◌, ◌%◌, ◌≤◌, ◌<◌, length, eqb, Err, Ok}
use Rattle.std.proofs.Common.{sym, ap, ◌∙◌, true≢false, arith, leb-true, ltb-true, eqb-true, eq-eqb, ne_eqb}
use Rattle.std.proofs.Math.Decide.{ℕ_discrete}
use Rattle.words.specs.Tests.{and_l, and_r}
use Rattle.words.specs.Words.{words, words_length}
use Rattle.records.specs.declared.Header.{Header}
use Rattle.records.specs.declared.Refusal.{Refusal}
use Rattle.records.specs.Layout.{image_of, image_length, most_values, most_nodes}
use Rattle.records.specs.Records.{header_of}
use Rattle.inspection.specs.Tests.{shape_ok, bytes_ok, arena_ok, header_ok, front_ok, spare_ok, top_ok, used_node}
use Rattle.inspection.specs.Opening.{open_shaped, open_of}

-- the shape: M and N within their limits, and the word count
pub record Shaped (m n count : ℕ) : Type 0 where
  pub some : 1 ≤ m
  pub most : m ≤ most_values
  pub twice : 2 * m ≤ n
  pub nodes_most : n ≤ most_nodes
  pub words : count ≡ image_length m n

pub shaped : (m n count : ℕ) → shape_ok m n count ≡ true → Shaped m n count
shaped m n count e =
    record {
      some = leb-true 1 m (search (and_l, and_r));
      most = leb-true m most_values (search (and_l, and_r));
      twice = leb-true (2 * m) n (search (and_l, and_r));
      nodes_most = leb-true n most_nodes (search (and_l, and_r));
      words = eqb-true count (image_length m n) (search (and_l, and_r));
    }

never_good : {r : Refusal} {h : Header} → Err r ≡ Ok h → ⊥
never_good e = let z : ◌≡◌ {A = ℕ} 0 1 = cc in omega arith

opened : (a b : Bool) (g h : Header) (r s : Refusal) → cond a (cond b (Ok g) (Err r)) (Err s) ≡ Ok h
    → (a ≡ true) × (b ≡ true) × (g ≡ h)
opened true true g h r s e = (refl, refl, cc)
opened true false g h r s e = absurd (never_good e)
opened false b g h r s e = absurd (never_good e)

module _ (m n : ℕ) (ws : List ℕ) (h : Header) (good : open_of m n ws ≡ Ok h) where
  parts : (shape_ok m n (length ws) ≡ true) × (top_ok m n ws ≡ true) × (header_of n ws ≡ h)
  unfolding open_of open_shaped
  parts = opened (shape_ok m n (length ws)) (top_ok m n ws) (header_of n ws) h _ _ good

  pub open_shaped_lem : Shaped m n (length ws)
  open_shaped_lem = shaped m n (length ws) parts.0

  pub open_header : header_of n ws ≡ h
  open_header = parts.2

  pub open_passed : header_ok m n h ≡ true
  unfolding top_ok
  open_passed = rw (sym parts.2) (and_r (front_ok ws && spare_ok ws) (header_ok m n (header_of n ws)) parts.1)

-- an image of the right shape whose header passes is opened
pub shaped_opens : (m n : ℕ) (ws : List ℕ) (h : Header) → shape_ok m n (length ws) ≡ true → open_shaped m n ws ≡ Ok h → open_of m n ws ≡ Ok h
unfolding open_of
shaped_opens m n ws h s e = rw s e

pub shaped_shut : (m n : ℕ) (ws : List ℕ) (r : Refusal) → shape_ok m n (length ws) ≡ true → open_shaped m n ws ≡ Err r → open_of m n ws ≡ Err r
unfolding open_of
shaped_shut m n ws r s e = rw s e

-- the bumps of a header that passes
pub node_bump : (m n : ℕ) (h : Header) → header_ok m n h ≡ true → h.nodes.bump ≤ n + 1
unfolding header_ok arena_ok
node_bump m n h e =
    let a : arena_ok h.nodes n ≡ true = search (and_l, and_r) in
    leb-true h.nodes.bump (n + 1) (search (and_l, and_r) depth 8)

pub value_bump : (m n : ℕ) (h : Header) → header_ok m n h ≡ true → h.values.bump ≤ m + 1
unfolding header_ok arena_ok
value_bump m n h e =
    let a : arena_ok h.values m ≡ true = search (and_l, and_r) in
    leb-true h.values.bump (m + 1) (search (and_l, and_r) depth 8)

-- room for every node below the bump
abbrev pub Room : Header → ℕ → Type 0
Room h count = 12 * h.nodes.bump ≤ count + 4

pub room : (m n : ℕ) (ws : List ℕ) (h : Header) → open_of m n ws ≡ Ok h → Room h (length ws)
room m n ws h e =
    omega (arith, (open_shaped_lem m n ws h e).words, node_bump m n h (open_passed m n ws h e))

-- a used index lies inside
pub used_within : (h : Header) (i count : ℕ) → used_node h i ≡ true → Room h count → (1 ≤ i) × (12 * i + 8 ≤ count)
used_within h i count u r =
    let a : 1 ≤ i = leb-true 1 i (search (and_l, and_r)) in
    let b : i < h.nodes.bump = ltb-true i h.nodes.bump (search (and_l, and_r)) in
    (a, omega arith)

-- ---- the image and the buffer's words

pub whole_words : (bytes : List ℕ) → length bytes % 4 ≡ 0 → image_of bytes ≡ words bytes
unfolding image_of
whole_words bytes e = rw (eq-eqb (length bytes % 4) 0 e)

-- an image of the right shape is the buffer's words
pub image_words : (m n : ℕ) (bytes : List ℕ) → shape_ok m n (length (image_of bytes)) ≡ true → image_of bytes ≡ words bytes
unfolding image_of
image_words m n bytes e = go (eqb (length bytes % 4) 0) (shaped m n _ e).words
  where
    go : (b : Bool) → length (cond b (words bytes) []) ≡ image_length m n → cond b (words bytes) [] ≡ words bytes
    go true l = refl
    go false l = absurd (omega arith)

pub opened_words : (m n : ℕ) (bytes : List ℕ) (h : Header) → open_of m n (image_of bytes) ≡ Ok h → image_of bytes ≡ words bytes
opened_words m n bytes h e = image_words m n bytes (parts m n (image_of bytes) h e).0

pub shaped_whole : (m n : ℕ) (bytes : List ℕ) → shape_ok m n (length (image_of bytes)) ≡ true → length bytes % 4 ≡ 0
unfolding image_of
shaped_whole m n bytes e = go (eqb (length bytes % 4) 0) refl (shaped m n _ e).words
  where
    go : (b : Bool) → eqb (length bytes % 4) 0 ≡ b → length (cond b (words bytes) []) ≡ image_length m n → length bytes % 4 ≡ 0
    go true t l = eqb-true (length bytes % 4) 0 t
    go false t l = absurd (omega arith)

pub opened_whole : (m n : ℕ) (bytes : List ℕ) (h : Header) → open_of m n (image_of bytes) ≡ Ok h → length bytes % 4 ≡ 0
opened_whole m n bytes h e = shaped_whole m n bytes (parts m n (image_of bytes) h e).0

-- ---- the buffer of an image in bytes

-- the image has as many words as M and N ask for exactly if the buffer has four times as many bytes
bytes_asked : (m n : ℕ) (bytes : List ℕ) → eqb (length bytes) (4 * image_length m n) ≡ eqb (length (image_of bytes)) (image_length m n)
unfolding image_of
bytes_asked m n bytes = go (eqb (length bytes % 4) 0) refl (ℕ_discrete (length bytes) (4 * image_length m n))
  where
    go : (b : Bool) → eqb (length bytes % 4) 0 ≡ b → Dec (length bytes ≡ 4 * image_length m n)
        → eqb (length bytes) (4 * image_length m n) ≡ eqb (length (cond b (words bytes) [])) (image_length m n)
    go true t (yes e) =
        eq-eqb (length bytes) (4 * image_length m n) e ∙ sym (eq-eqb (length (words bytes)) (image_length m n) (omega (arith, words_length bytes)))
    go true t (no d) =
        let whole = eqb-true (length bytes % 4) 0 t in
        ne_eqb (length bytes) (4 * image_length m n) d ∙ sym (ne_eqb (length (words bytes)) (image_length m n) (omega (arith, words_length bytes)))
    go false t (yes e) =
        let whole : length bytes % 4 ≡ 0 = omega arith in absurd (true≢false (sym (eq-eqb (length bytes % 4) 0 whole) ∙ t))
    go false t (no d) = ne_eqb (length bytes) (4 * image_length m n) d ∙ sym (ne_eqb 0 (image_length m n) (omega arith))

-- so the shape can be tested by the length in bytes
pub bytes_shape : (m n : ℕ) (bytes : List ℕ) → bytes_ok m n (length bytes) ≡ shape_ok m n (length (image_of bytes))
bytes_shape m n bytes = rw (bytes_asked m n bytes)

pub shaped_bytes : (m n : ℕ) (bytes : List ℕ) → shape_ok m n (length (image_of bytes)) ≡ true → length bytes ≡ 48 * n + 32 * m + 48
shaped_bytes m n bytes e =
    let whole = shaped_whole m n bytes e in
    let same : length (words bytes) ≡ image_length m n = ap length (sym (image_words m n bytes e)) ∙ (shaped m n _ e).words in
    omega (arith, words_length bytes)

pub opened_bytes : (m n : ℕ) (bytes : List ℕ) (h : Header) → open_of m n (image_of bytes) ≡ Ok h → length bytes ≡ 48 * n + 32 * m + 48
opened_bytes m n bytes h e = shaped_bytes m n bytes (parts m n (image_of bytes) h e).0
