-- What is promised of every call, for insert: each refusal number "when, and only then", a refusal leaves every word and its index is 0, and the contract allows no
-- second outcome.
use Rattle.std.specs.Prelude.{◌≡◌, List, ◌≢◌, ◌↔◌, ◌⊎◌, Bool, cond, ◌&&◌, length, Err, Ok, Result}
use Rattle.std.proofs.Math.Path.{refl, sym}
use Rattle.std.proofs.Common.{subst, ◌∙◌, inl, inr, eq-eqb, ne_eqb}
use Rattle.std.proofs.Math.Bool.{true, false}
use Prim.Native.Nat.{ℕ, zero, suc, ◌%◌}
use Rattle.std.proofs.Math.Decide.{ℕ_discrete}
use Rattle.records.specs.declared.Refusal.{Refusal}
use Rattle.records.specs.declared.NodeIndex.{NodeIndex}
use Rattle.words.specs.Words.{Bytes}
use Rattle.keys.specs.declared.Key.{Key}
use Rattle.records.specs.declared.Header.{Header}
use Rattle.records.specs.declared.Value.{Value}
use Rattle.records.specs.declared.Refusal.TheVariants as no
use Rattle.records.specs.Layout.{image_of}
use Rattle.inspection.specs.Tests.{shape_ok, top_ok, kids_ok, live_value}
use Rattle.records.specs.Numbers.{refusal_number, answer_number, place_index}
use Rattle.inspection.specs.Opening.{open_shaped, open_of}
use Rattle.inspection.specs.Answers.{OpensAs, misshapen, unsound, sound, opens}
use Rattle.inspection.specs.Outcome.{Leaves, one_outcome}
use Rattle.inspection.specs.Room.{opened_whole}
use Rattle.descent.specs.declared.Stop.{Stop}
use Rattle.descent.specs.declared.Stop.TheVariants as stop
use Rattle.descent.specs.Descent.{find_of}
use Rattle.insert.specs.declared.Plan.{Plan}
use Rattle.insert.specs.declared.Plan.TheVariants.{First, Replace, Split}
use Rattle.insert.specs.Plan.{leaf_tests, split_tests, stop_plan, insert_plan}
use Rattle.insert.specs.Steps.{plan_image, plan_place, opened_plan, insert_of, insert_image}

abbrev pub number : ℕ → ℕ → List ℕ → Key → ℕ
number m n ws key = answer_number (insert_of m n ws key)

-- ---- when a test fails

-- what is tested in an opened image that is not full, by where the descent stopped
unfoldable pub stop_tests : ℕ → ℕ → Header → List ℕ → Stop → Bool
stop_tests m n h ws (stop.Leaf i x) = live_value n ws i.0 x.value.0
stop_tests m n h ws (stop.Parted i x shared) = kids_ok h ws i.0 x && split_tests m n h ws
stop_tests m n h ws stop.Empty = leaf_tests m n h ws
stop_tests m n h ws stop.Damaged = false

-- the shape is right and the header fails
pub record HeaderFails (m n : ℕ) (ws : List ℕ) : Type 0 where
  pub shape : shape_ok m n (length ws) ≡ true
  pub header : top_ok m n ws ≡ false

-- shape and header pass, and n = M
pub record Full (m n : ℕ) (ws : List ℕ) : Type 0 where
  pub header : Header
  pub opens : open_of m n ws ≡ Ok header
  pub full : header.values.size ≡ m

-- shape and header pass, n is not M, and the tests before the first write come out so
pub record Tested (m n : ℕ) (ws : List ℕ) (key : Key) (passed : Bool) : Type 0 where
  pub header : Header
  pub opens : open_of m n ws ≡ Ok header
  pub room : header.values.size ≢ m
  pub tests : stop_tests m n header ws (find_of header ws key) ≡ passed

-- the refusal numbers, and 0 where insert does not refuse
abbrev pub When : ℕ → ℕ → List ℕ → Key → ℕ → Type 0
When m n ws key zero = Tested m n ws key true
When m n ws key (suc zero) = shape_ok m n (length ws) ≡ false
When m n ws key (suc (suc zero)) = HeaderFails m n ws ⊎ Tested m n ws key false
When m n ws key (suc (suc (suc zero))) = Full m n ws
When m n ws key (suc (suc (suc (suc k)))) = ⊥

-- ---- the number that comes of each

chosen : (f b : Bool) (p : Result Plan Refusal) → f ≡ b → answer_number (plan_place p) ≡ 0
    → answer_number (plan_place (cond f p (Err no.Damaged))) ≡ cond b 0 2
unfolding plan_place answer_number refusal_number
chosen true b p t z = rw (sym t) z
chosen false b p t z = rw (sym t)

module _ (m n : ℕ) (h : Header) (ws : List ℕ) where
  stop_number : (s : Stop) (b : Bool) → stop_tests m n h ws s ≡ b
      → answer_number (plan_place (stop_plan m n h ws s)) ≡ cond b 0 2
  unfolding stop_tests stop_plan plan_place answer_number refusal_number
  stop_number (stop.Leaf i x) b t = chosen (stop_tests m n h ws (stop.Leaf i x)) b (Ok (Replace i x.value)) t refl
  stop_number (stop.Parted i x shared) b t = chosen (stop_tests m n h ws (stop.Parted i x shared)) b (Ok (Split h i x shared)) t refl
  stop_number stop.Empty b t = chosen (leaf_tests m n h ws) b (Ok (First h)) t refl
  stop_number stop.Damaged b t = rw (sym t)

  tested_number : (key : Key) (b : Bool) → h.values.size ≢ m → stop_tests m n h ws (find_of h ws key) ≡ b
      → answer_number (plan_place (insert_plan m n h ws key)) ≡ cond b 0 2
  unfolding insert_plan
  tested_number key b d t = rw (ne_eqb h.values.size m d) (stop_number (find_of h ws key) b t)

  full_number : (key : Key) → h.values.size ≡ m → answer_number (plan_place (insert_plan m n h ws key)) ≡ 3
  unfolding insert_plan plan_place answer_number refusal_number
  full_number key e = rw (eq-eqb h.values.size m e)

module _ (m n : ℕ) (ws : List ℕ) (key : Key) where
  opened_number : (o : Result Header Refusal) → open_of m n ws ≡ o → answer_number (plan_place (opened_plan m n ws key o)) ≡ number m n ws key
  unfolding insert_of
  opened_number o e = rw e

  good_number : (h : Header) → open_of m n ws ≡ Ok h
      → answer_number (plan_place (insert_plan m n h ws key)) ≡ number m n ws key
  unfolding opened_plan
  good_number h e = opened_number (Ok h) e

  number_of : (k : ℕ) → When m n ws key k → number m n ws key ≡ k
  unfolding open_of open_shaped opened_plan plan_place answer_number refusal_number
  number_of zero x = sym (good_number x.header x.opens) ∙ tested_number m n x.header ws key true x.room x.tests
  number_of (suc zero) e = sym (opened_number (Err no.Shape) (rw e))
  number_of (suc (suc zero)) (inl x) = sym (opened_number (Err no.Damaged) (rw (x.shape, x.header)))
  number_of (suc (suc zero)) (inr x) = sym (good_number x.header x.opens) ∙ tested_number m n x.header ws key false x.room x.tests
  number_of (suc (suc (suc zero))) x = sym (good_number x.header x.opens) ∙ full_number m n x.header ws key x.full
  number_of (suc (suc (suc (suc k)))) x = absurd x

  some_number : (k : ℕ) × When m n ws key k
  some_number = go (opens m n ws)
    where
      rest : (h : Header) → open_of m n ws ≡ Ok h → Dec (h.values.size ≡ m) → (t : Bool)
          → stop_tests m n h ws (find_of h ws key) ≡ t → (k : ℕ) × When m n ws key k
      rest h o (yes d) t g = (3, record { header = h; opens = o; full = d })
      rest h o (no d) false g = (2, inr (record { header = h; opens = o; room = d; tests = g }))
      rest h o (no d) true g = (0, record { header = h; opens = o; room = d; tests = g })

      go : OpensAs m n ws → (k : ℕ) × When m n ws key k
      go (misshapen p o) = (1, p)
      go (unsound p q o) = (2, inl (record { shape = p; header = q }))
      go (sound h p q o) = rest h o (ℕ_discrete h.values.size m) (stop_tests m n h ws (find_of h ws key)) refl

  -- each number, "when, and only then"
  pub insert_number : (k : ℕ) → (number m n ws key ≡ k) ↔ When m n ws key k
  insert_number k =
      (λ e. subst (When m n ws key) (sym (number_of some_number.0 some_number.1) ∙ e) some_number.1, number_of k)

  -- ---- refusals

  plan_kept : (v : Value) (p : Result Plan Refusal) → answer_number (plan_place p) ≢ 0 → plan_image m n ws key v p ≡ ws
  unfolding plan_place answer_number plan_image
  plan_kept v (Ok (First h)) d = absurd (d refl)
  plan_kept v (Ok (Replace i j)) d = absurd (d refl)
  plan_kept v (Ok (Split h i x shared)) d = absurd (d refl)
  plan_kept v (Err r) d = refl

  -- no refusal changes the image
  pub refusal_keeps : (v : Value) → number m n ws key ≢ 0 → insert_image m n ws key v ≡ ws
  unfolding insert_of insert_image
  refusal_keeps v d = plan_kept v (opened_plan m n ws key (open_of m n ws)) d

  -- and it comes with index 0
  pub refusal_index : number m n ws key ≢ 0 → place_index (insert_of m n ws key) ≡ 0
  unfolding answer_number place_index
  refusal_index d = go (insert_of m n ws key) d
    where
      go : (r : Result NodeIndex Refusal) → answer_number r ≢ 0 → place_index r ≡ 0
      go (Ok i) d = absurd (d refl)
      go (Err r) d = refl

-- ---- no second outcome

-- what the contract of insert allows: the answer, and the bytes afterwards
pub record Allowed (m n : ℕ) (before : List ℕ) (key : Key) (v : Value) (answer : Result NodeIndex Refusal) (after : List ℕ) : Type 0 where
  pub answers : answer ≡ insert_of m n (image_of before) key
  pub leaves : Leaves before after (number m n (image_of before) key) (insert_image m n (image_of before) key v)
  pub bytes : Bytes after
  pub long : length after ≡ length before

pub one_insert : {m n : ℕ} {before : List ℕ} {key : Key} {v : Value} {r s : Result NodeIndex Refusal} {a b : List ℕ}
    → Allowed m n before key v r a → Allowed m n before key v s b → (r ≡ s) × (a ≡ b)
one_insert {m} {n} {before} {key} x y =
    let whole : number m n (image_of before) key ≡ 0 → length before % 4 ≡ 0 =
    λ z. let t = (insert_number m n (image_of before) key 0).0 z in opened_whole m n before t.header t.opens in
    (x.answers ∙ sym y.answers, one_outcome whole x.bytes y.bytes x.long y.long x.leaves y.leaves)
