-- The demands on one call, for remove: a refusal leaves every word and answers zeros (rules D1c, R8), each number
-- stands for its case and for no other (section R), and no second outcome fits the contract (rule E1).
use Rattle.std.specs.Prelude.{◌≡◌, List, Bool, cond, ◌&&◌, ◌≢◌, ◌↔◌, ◌⊎◌, length, eqb, Err, Ok, Result}
use Rattle.std.proofs.Math.Path.{refl}
use Rattle.std.proofs.Common.{sym, ap, ◌∙◌, subst, true≢false, inl, inr}
use Rattle.std.proofs.Math.Bool.{true, false}
use Prim.Native.Nat.{ℕ, zero, suc, ◌+◌, ◌%◌}
use Rattle.std.proofs.Math.Decide.{ℕ_discrete}
use borrow.Author.Tests.{eq-eqb, ne_eqb}
use Rattle.records.specs.declared.Value.{Value}
use Rattle.records.specs.declared.Refusal.{Refusal}
use Rattle.words.specs.Words.{Bytes}
use Rattle.words.specs.Tests.{either_way}
use Rattle.keys.specs.declared.Key.{Key}
use Rattle.keys.specs.Number.{number_of}
use Rattle.records.specs.declared.Header.{Header}
use Rattle.records.specs.declared.Node.{Node}
use Rattle.records.specs.declared.NodeIndex.{NodeIndex}
use Rattle.records.specs.Layout.{image_of}
use Rattle.records.specs.Records.{node_of}
use Rattle.records.specs.Numbers.{refusal_number, answer_number, got_value, zero_value}
use Rattle.descent.specs.Found.{stop_leaf}
use Rattle.inspection.specs.Tests.{shape_ok, top_ok, used_node, node_ok, root_ok, live_value}
use Rattle.inspection.specs.Visit.{live_of}
use Rattle.inspection.specs.Opening.{open_shaped, open_of}
use Rattle.inspection.specs.Answers.{OpensAs, misshapen, unsound, sound, opens}
use Rattle.inspection.specs.Outcome.{Leaves, one_outcome}
use Rattle.inspection.specs.Room.{opened_whole}
use Rattle.descent.specs.declared.Stop.{Stop}
use Rattle.descent.specs.declared.Stop.TheVariants as stop
use Rattle.std.specs.declared.ops.ControlFlow.TheVariants.{Break}
use Rattle.descent.specs.Descent.{down, is_inner, child_of, bits_turn, turn_at, follow, descend, no_node, from_root, leaf_of}
use Rattle.remove.specs.declared.Plan.{Plan}
use Rattle.remove.specs.declared.Plan.TheVariants.{Lone, Cut}
use Rattle.remove.specs.Plan.{sibling_of, sibling_ok, cut_plan, leaf_plan, reached_plan}
use Rattle.remove.specs.Steps.{plan_image, value_gone, opened_plan, remove_of, removed_image}

-- ---- a refusal

plan_kept : (m n : ℕ) (ws : List ℕ) (p : Result Plan Refusal) → answer_number (value_gone p) ≢ 0 → plan_image m n ws p ≡ ws
unfolding value_gone answer_number plan_image
plan_kept m n ws (Ok (Lone h i x v)) some = absurd (some refl)
plan_kept m n ws (Ok (Cut h i x y s z v)) some = absurd (some refl)
plan_kept m n ws (Err r) some = refl

-- it leaves every word
pub refused_keeps : (m n : ℕ) (ws : List ℕ) (key : Key) → answer_number (remove_of m n ws key) ≢ 0 → removed_image m n ws key ≡ ws
unfolding remove_of removed_image
refused_keeps m n ws key = plan_kept m n ws (opened_plan n ws key (open_of m n ws))

-- its value is zeros
pub refused_zeros : (r : Result Value Refusal) → answer_number r ≢ 0 → got_value r ≡ zero_value
unfolding answer_number got_value
refused_zeros (Ok v) some = absurd (some refl)
refused_zeros (Err r) some = refl

-- ---- a descent by the key's bits alone ends at a leaf, in an empty map or at damage

abbrev parts : Stop → Bool
parts (stop.Leaf i x) = false
parts (stop.Parted i x shared) = true
parts stop.Empty = false
parts stop.Damaged = false

module _ (h : Header) (ws : List ℕ) (key : Key) where
  descend_apart : (fuel : ℕ) (i above : NodeIndex) (low : ℕ) → parts (descend (bits_turn key) fuel h ws i above low) ≡ false
  unfolding descend turn_at bits_turn
  descend_apart zero i above low = refl
  descend_apart (suc fuel) i above low =
      go (node_ok h ws i.0 above.0 low) (is_inner (node_of ws i.0)) (descend_apart fuel (child_of key (node_of ws i.0)) i ((node_of ws i.0).prefix + 1))
    where
      go : (a b : Bool) → parts (descend (bits_turn key) fuel h ws (child_of key (node_of ws i.0)) i ((node_of ws i.0).prefix + 1)) ≡ false
          → parts
          (follow (λ c next. descend (bits_turn key) fuel h ws c i next)
          (cond a (cond b (down (child_of key (node_of ws i.0)) ((node_of ws i.0).prefix + 1)) (Break (stop.Leaf i (node_of ws i.0)))) (Break stop.Damaged)))
          ≡ false
      go true true e = e
      go true false e = refl
      go false b e = refl

  leaf_apart : parts (leaf_of h ws key) ≡ false
  unfolding from_root
  leaf_apart =
      either_way (λ e. parts e ≡ false) (eqb h.values.size 0) _ _ refl
      (either_way (λ e. parts e ≡ false) (root_ok h ws) _ _ (descend_apart 129 h.root no_node 0) refl)

-- ---- the numbers, "when, and only then"

-- what is tested beside a leaf below node p: that node's index, the sibling, and the sibling's children
abbrev pub beside_ok : Header → List ℕ → Key → ℕ → Bool
beside_ok h ws key p = used_node h p && sibling_ok h ws p (node_of ws p).prefix (sibling_of key (node_of ws p)).0

-- the key's leaf i, whose record is x
pub record Reached (m n : ℕ) (ws : List ℕ) (key : Key) (h : Header) (i : NodeIndex) (x : Node) : Type 0 where
  pub opens : open_of m n ws ≡ Ok h
  pub leaf : leaf_of h ws key ≡ stop.Leaf i x
  pub own : number_of key ≡ number_of x.key

-- each number with its cases: there is none for 3, 5 and 6, which are other calls'
pub data Numbered (m n : ℕ) (ws : List ℕ) (key : Key) : ℕ → Type 0 where
  -- the shape's test fails
  shape : shape_ok m n (length ws) ≡ false → Numbered m n ws key 1
  -- the header's test, a visited node's, the value record's or the sibling's fails
  header : shape_ok m n (length ws) ≡ true → top_ok m n ws ≡ false → Numbered m n ws key 2
  visited : (h : Header) → open_of m n ws ≡ Ok h → leaf_of h ws key ≡ stop.Damaged → Numbered m n ws key 2
  value : (h : Header) (i : NodeIndex) (x : Node) → Reached m n ws key h i x → live_value n ws i.0 x.value.0 ≡ false → Numbered m n ws key 2
  sibling : (h : Header) (i : NodeIndex) (x : Node) → Reached m n ws key h i x → live_value n ws i.0 x.value.0 ≡ true
      → x.parent.0 ≢ 0 → beside_ok h ws key x.parent.0 ≡ false → Numbered m n ws key 2
  -- the map is empty, or the leaf that the key's bits lead to is not the key's
  empty : (h : Header) → open_of m n ws ≡ Ok h → leaf_of h ws key ≡ stop.Empty → Numbered m n ws key 4
  other : (h : Header) (i : NodeIndex) (x : Node) → open_of m n ws ≡ Ok h → leaf_of h ws key ≡ stop.Leaf i x → number_of key ≢ number_of x.key
      → Numbered m n ws key 4
  -- every test passes: the leaf is the root, or hangs below a node
  root : (h : Header) (i : NodeIndex) (x : Node) → Reached m n ws key h i x → live_value n ws i.0 x.value.0 ≡ true → x.parent.0 ≡ 0
      → Numbered m n ws key 0
  below : (h : Header) (i : NodeIndex) (x : Node) → Reached m n ws key h i x → live_value n ws i.0 x.value.0 ≡ true
      → x.parent.0 ≢ 0 → beside_ok h ws key x.parent.0 ≡ true → Numbered m n ws key 0

module _ (m n : ℕ) (ws : List ℕ) (key : Key) where
  abbrev own : {h : Header} {i : NodeIndex} {x : Node} → Reached m n ws key h i x → eqb (number_of key) (number_of x.key) ≡ true
  own {h} {i} {x} r = eq-eqb (number_of key) (number_of x.key) r.own

  answered : {k : ℕ} → Numbered m n ws key k → answer_number (remove_of m n ws key) ≡ k
  unfolding remove_of opened_plan open_of open_shaped reached_plan stop_leaf leaf_plan cut_plan live_of value_gone answer_number refusal_number
  answered (shape e) = simp e
  answered (header s e) = simp (s, e)
  answered (visited h o e) = simp (o, e)
  answered (value h i x r e) = simp (r.opens, r.leaf, own r, e)
  answered (sibling h i x r l p e) = simp (r.opens, r.leaf, own r, l, ne_eqb x.parent.0 0 p, e)
  answered (empty h o e) = simp (o, e)
  answered (other h i x o e d) = simp (o, e, ne_eqb (number_of key) (number_of x.key) d)
  answered (root h i x r l p) = simp (r.opens, r.leaf, own r, l, eq-eqb x.parent.0 0 p)
  answered (below h i x r l p e) = simp (r.opens, r.leaf, own r, l, ne_eqb x.parent.0 0 p, e)

  -- one of the cases holds
  abbrev Some : Type 0
  Some = (k : ℕ) × Numbered m n ws key k

  leaf_case : (h : Header) (i : NodeIndex) (x : Node) → Reached m n ws key h i x → (l b : Bool) → live_value n ws i.0 x.value.0 ≡ l
      → beside_ok h ws key x.parent.0 ≡ b → Dec (x.parent.0 ≡ 0) → Some
  leaf_case h i x r false b f e d = (2, value h i x r f)
  leaf_case h i x r true b f e (yes p) = (0, root h i x r f p)
  leaf_case h i x r true true f e (no p) = (0, below h i x r f p e)
  leaf_case h i x r true false f e (no p) = (2, sibling h i x r f p e)

  key_case : (h : Header) (i : NodeIndex) (x : Node) → open_of m n ws ≡ Ok h → leaf_of h ws key ≡ stop.Leaf i x
      → Dec (number_of key ≡ number_of x.key) → Some
  key_case h i x o e (no d) = (4, other h i x o e d)
  key_case h i x o e (yes s) = leaf_case h i x (record { opens = o; leaf = e; own = s }) _ _ refl refl (ℕ_discrete x.parent.0 0)

  stop_case : (h : Header) → open_of m n ws ≡ Ok h → (s : Stop) → leaf_of h ws key ≡ s → Some
  stop_case h o (stop.Leaf i x) e = key_case h i x o e (ℕ_discrete (number_of key) (number_of x.key))
  stop_case h o (stop.Parted i x shared) e = absurd (true≢false (sym (ap parts e) ∙ leaf_apart h ws key))
  stop_case h o stop.Empty e = (4, empty h o e)
  stop_case h o stop.Damaged e = (2, visited h o e)

  open_case : OpensAs m n ws → Some
  open_case (misshapen p o) = (1, shape p)
  open_case (unsound p q o) = (2, header p q)
  open_case (sound h p q o) = stop_case h o (leaf_of h ws key) refl

  pub numbered : (k : ℕ) → (answer_number (remove_of m n ws key) ≡ k) ↔ Numbered m n ws key k
  numbered k =
      let c : Some = open_case (opens m n ws) in
      (λ e. subst (Numbered m n ws key) (sym (answered c.1) ∙ e) c.1, answered)

  pub number_shape : (answer_number (remove_of m n ws key) ≡ 1) ↔ (shape_ok m n (length ws) ≡ false)
  number_shape = (λ e. told ((numbered 1).0 e), λ e. (numbered 1).1 (shape e))
    where
      told : Numbered m n ws key 1 → shape_ok m n (length ws) ≡ false
      told (shape e) = e

  -- the map is empty, or its leaf x is another key's
  abbrev Absent : Header → Type 0
  Absent h = (leaf_of h ws key ≡ stop.Empty) ⊎ ((i : NodeIndex) × (x : Node) × (leaf_of h ws key ≡ stop.Leaf i x) × (number_of key ≢ number_of x.key))

  pub number_absent : (answer_number (remove_of m n ws key) ≡ 4) ↔ ((h : Header) × (open_of m n ws ≡ Ok h) × Absent h)
  number_absent = (λ e. told ((numbered 4).0 e), λ a. (numbered 4).1 (asks a.0 a.1 a.2))
    where
      told : Numbered m n ws key 4 → (h : Header) × (open_of m n ws ≡ Ok h) × Absent h
      told (empty h o e) = (h, o, inl e)
      told (other h i x o e d) = (h, o, inr (i, x, e, d))

      asks : (h : Header) → open_of m n ws ≡ Ok h → Absent h → Numbered m n ws key 4
      asks h o (inl e) = empty h o e
      asks h o (inr a) = other h a.0 a.1 o a.2 a.3

  pub number_never : (answer_number (remove_of m n ws key) ≢ 3) × (answer_number (remove_of m n ws key) ≢ 5) × (answer_number (remove_of m n ws key) ≢ 6)
  number_never = (λ e. elim ((numbered 3).0 e) [ ], λ e. elim ((numbered 5).0 e) [ ], λ e. elim ((numbered 6).0 e) [ ])

-- ---- no second outcome

-- the contract of remove
abbrev pub Meets : ℕ → ℕ → List ℕ → Key → Result Value Refusal → List ℕ → Type 0
Meets m n before key r after =
    (r ≡ remove_of m n (image_of before) key)
    × Leaves before after (answer_number (remove_of m n (image_of before) key)) (removed_image m n (image_of before) key)

-- a remove that does not refuse has found whole words
whole : (m n : ℕ) (before : List ℕ) (key : Key) → Numbered m n (image_of before) key 0 → length before % 4 ≡ 0
whole m n before key (root h i x r l p) = opened_whole m n before h r.opens
whole m n before key (below h i x r l p e) = opened_whole m n before h r.opens

pub one_remove : (m n : ℕ) (before : List ℕ) (key : Key) (r s : Result Value Refusal) (a b : List ℕ) → Bytes a → Bytes b
    → length a ≡ length before → length b ≡ length before → Meets m n before key r a → Meets m n before key s b → (r ≡ s) × (a ≡ b)
one_remove m n before key r s a b small small' long long' x y = (
  x.0 ∙ sym y.0,
  one_outcome (λ z. whole m n before key ((numbered m n (image_of before) key 0).0 z)) small small' long long' x.1 y.1,
)
