-- The demands that speak of accepted images and of histories, sentence by sentence, each cited from where it is proved. `Call`, `list_answer` and `list_next` are in the crate lists, Machine; `answer_of` and
-- `image_left` in Calls; `Accepted` in the crate accepted. Over the bytes that the code's own calls are lent the same stands in the crate lent.
use Rattle.std.specs.Prelude.{◌≡◌, refl, List, ◌∷◌, map, ◌≢◌, ◌↔◌, false, ℕ, suc, ◌-◌, ◌*◌, ◌≤◌, min, length, Err, Ok}
use Rattle.std.proofs.Common.{sym, ap, subst, ◌∙◌, arith}
use Rattle.keys.specs.declared.Key.{Key}
use Rattle.keys.specs.Number.{Fits}
use Rattle.records.specs.declared.NodeIndex.{NodeIndex}
use Rattle.records.specs.declared.Value.{Value}
use Rattle.records.specs.declared.Refusal.TheVariants as no
use Rattle.records.specs.Records.{header_of, node_of, leaf_node}
use Rattle.inspection.specs.Room.{Shaped}
use Rattle.lookup.specs.Get.{addr_of}
use Rattle.lookup.specs.Promises.{start_kept, set_kept}
use Rattle.insert.specs.Steps.{insert_of, insert_image}
use Rattle.insert.specs.Promises.{refusal_keeps}
use Rattle.remove.specs.Promises.{refused_keeps}
use Rattle.lists.specs.Lists.{All}
use Rattle.lists.specs.Entries.{Rising, held}
use Rattle.lists.specs.Answers.{Answer, number_in, indexless}
use Rattle.lists.specs.Machine.{FitsValue, Call, start, insert, remove, write, ask, Fitting, Entries, list_answer, list_next, State, blank, holding, state_answers, state_after}
use Rattle.records_touched.specs.Stores.{Touched, untouched}
use Rattle.records_touched.specs.Inserted.{insert_touched}
use Rattle.records_touched.specs.Removed.{remove_touched}
use Rattle.records_touched.specs.Written.{start_touched, write_touched}
use Rattle.full_check.specs.Check.{check_of}
use Rattle.trees.specs.Map.{shape_is}
use Rattle.trees.specs.Shape.{shape}
use Rattle.record_views.specs.Small.{Small}
use Rattle.accepted.specs.Accepted.{Accepted}
use Rattle.accepted.specs.Tests.{shape_passes}
use Rattle.accepted_lookup.specs.Answers.{listed}
use Rattle.accepted_write.specs.Start.{Blank}
use Rattle.accepted_insert.specs.Call.{insert_full}
use Rattle.accepted_check.specs.Exact.{Exact, check_exact, check_complete, check_sound}
use Rattle.histories.specs.Calls.{answer_of, image_left, answers, image_after}
use Rattle.histories.specs.Agrees.{Is, call_agrees, history}
use Rattle.histories.specs.Refusals.{list_number, ShortCheck, number_agrees, never_damaged, only_scratch}
use Rattle.histories.specs.Indexes.{address_absent, address_names, insert_addressed}
use Rattle.histories.specs.Unique.{one_list, one_state}
use Rattle.histories.specs.Shapes.{keys_of, longest, Descends, canonical_shape, short_paths, paths_bound, ascends, counted, nodes_counted, at_most}
use Rattle.histories.specs.NotEmpty.{Limits, zero_words, inserts, FitsEntry, every_list}
use Rattle.histories.specs.ShutOut.{story, told, story_told, none_fixed}
use Rattle.histories.specs.Sharp.{bound_reached}

-- ---- demand 1, over every call

-- "A refusal .. changes no word of the image": on any image.
pub refusals_change_nothing : (m n : ℕ) (ws : List ℕ) (c : Call) → number_in (answer_of m n c ws) ≢ 0 → image_left m n c ws ≡ ws
unfolding number_in
refusals_change_nothing m n ws start d = start_kept m n ws d
refusals_change_nothing m n ws (insert key v) d = refusal_keeps m n ws key v d
refusals_change_nothing m n ws (remove key) d = refused_keeps m n ws key d
refusals_change_nothing m n ws (write key v) d = set_kept m n ws key v d
refusals_change_nothing m n ws (ask q) d = refl

-- ---- demand 2

-- The answer of a call on an accepted image, and what it leaves.
pub record AsTheList (m n : ℕ) (ws : List ℕ) (c : Call) (es : Entries) : Type 0 where
  -- the list's answer, refusals included, up to the node index
  pub answer : indexless (answer_of m n c ws) ≡ list_answer m c es
  -- each refusal number when, and only then; 2 never, and 1 only where a check was lent too little scratch
  pub number : number_in (answer_of m n c ws) ≡ list_number m c es
  pub undamaged : number_in (answer_of m n c ws) ≢ 2
  pub shape_right : number_in (answer_of m n c ws) ≡ 1 → ShortCheck m c
  -- an accepted image, with the list's next state; the check accepts it again
  pub image : Accepted m n (image_left m n c ws)
  pub next : listed image ≡ list_next m c es
  pub checked : (scratch : List ℕ) → m ≤ length scratch → check_of m n (image_left m n c ws) scratch ≡ Ok tt

pub as_the_list : {m n : ℕ} {ws : List ℕ} (a : Accepted m n ws) (c : Call) → Fitting c → AsTheList m n ws c (listed a)
as_the_list {m} {n} {ws} a c f =
    let r = call_agrees a c f in
    record {
      answer = r.0;
      number = number_agrees a c f;
      undamaged = never_damaged a c f;
      shape_right = only_scratch a c f;
      image = r.1.0;
      next = r.1.1;
      checked = λ scratch l. check_complete m n (image_left m n c ws) scratch r.1.0 l;
    }

-- "On every image that the full check accepts, each call answers as one ascending list of keys and values does, refusals included, and leaves an accepted image."
pub answers_as_one_list : (m n : ℕ) (ws scratch : List ℕ) → Small ws → check_of m n ws scratch ≡ Ok tt
    → (es : Entries) × Rising es × ((c : Call) → Fitting c → AsTheList m n ws c es)
answers_as_one_list m n ws scratch small e = let a = check_sound m n ws scratch small e in (listed a, ascends a, as_the_list a)

-- One list: the words determine it, and the state.
pub one_list_only : {m n : ℕ} {ws : List ℕ} (a b : Accepted m n ws) → listed a ≡ listed b
one_list_only a b = one_list a b

pub one_state_only : (m n : ℕ) (ws : List ℕ) (s t : State) → Is m n ws s → Is m n ws t → s ≡ t
one_state_only = one_state

-- The node index, which the list does not have, is that of the key's leaf: address refuses exactly a key that is not held, the node that it names is the key's leaf, and an insert gives what address then gives.
pub record IndexLaw (m n : ℕ) (ws : List ℕ) (key : Key) (es : Entries) : Type 0 where
  pub absent : (addr_of m n ws key ≡ Err no.Absent) ↔ (held key es ≡ false)
  pub names : (i : NodeIndex) → addr_of m n ws key ≡ Ok i → (up v : ℕ) × (node_of ws i.0 ≡ leaf_node up key v)
  pub inserted : (v : Value) → FitsValue v → (i : NodeIndex) → insert_of m n ws key ≡ Ok i → addr_of m n (insert_image m n ws key v) key ≡ Ok i

pub index_law : {m n : ℕ} {ws : List ℕ} (a : Accepted m n ws) (key : Key) → Fits key → IndexLaw m n ws key (listed a)
index_law a key f = record { absent = address_absent a key; names = address_names a key f; inserted = insert_addressed a key f }

-- "Listings: from positions made since the last insert or remove": `listings_too` (proofs/Demands).

-- "A full map refuses even a key it holds", whatever the key, and nothing changes.
pub full_refuses : {m n : ℕ} {ws : List ℕ} (a : Accepted m n ws) (key : Key) → Fits key → (v : Value) → FitsValue v → length (listed a) ≡ m
    → (insert_of m n ws key ≡ Err no.Full) × (insert_image m n ws key v ≡ ws)
full_refuses a key f v g e = insert_full a key f v g e

-- "The check accepts exactly the images that meet the rules."
pub check_is_exact : (m n : ℕ) (ws scratch : List ℕ) → Small ws → Shaped m n (length ws) → m ≤ length scratch → Exact m n ws scratch
check_is_exact m n ws scratch small shape l = check_exact m n ws scratch small (shape_passes shape) l

-- ---- demand 3

-- an image that holds these entries
pub record Holding (m n : ℕ) (ws : List ℕ) (es : Entries) : Type 0 where
  pub image : Accepted m n ws
  pub list : listed image ≡ es
  pub ascending : Rising es
  -- n and the node size are counted from the list
  pub values_counted : (header_of n ws).values.size ≡ length es
  pub nodes_counted : (header_of n ws).nodes.size ≡ 2 * length es - 1
  pub at_most : length es ≤ m
  -- the tree has the shape that the keys alone determine
  pub shaped : shape_is image.tree ≡ shape (keys_of es)
  -- no path exceeds the smaller of n and 129 nodes: the tree's, and what Left and Right give from the root down
  pub short : longest image.tree ≤ min (length es) 129
  pub paths : 1 ≤ length es → (js : List ℕ) → Descends ws (header_of n ws).root.0 js → suc (length js) ≤ min (length es) 129

pub holding_accepted : {m n : ℕ} {ws : List ℕ} (a : Accepted m n ws) (es : Entries) → listed a ≡ es → Holding m n ws es
holding_accepted {m} {n} {ws} a es e =
    record {
      image = a;
      list = e;
      ascending = subst (λ (l : Entries). Rising l) e (ascends a);
      values_counted = counted a ∙ ap length e;
      nodes_counted = subst (λ (l : Entries). (header_of n ws).nodes.size ≡ 2 * length l - 1) e (nodes_counted a);
      at_most = subst (λ (l : Entries). length l ≤ m) e (at_most a);
      shaped = canonical_shape a ∙ ap (λ (l : Entries). shape (keys_of l)) e;
      short = subst (λ (l : Entries). longest a.tree ≤ min (length l) 129) e (short_paths a);
      paths = λ held js d. let many : (header_of n ws).values.size ≡ length es = counted a ∙ ap length e in omega (arith, paths_bound a (λ z. omega arith) js d);
    }

-- what an image is in a state
abbrev pub Ends : ℕ → ℕ → List ℕ → State → Type 0
Ends m n ws blank = Shaped m n (length ws) × Blank ws
Ends m n ws (holding es) = Holding m n ws es

-- "From blank memory or any accepted image, after any sequence of the map's calls with one M and N, refused ones too, the tree has the shape that its surviving keys alone determine": the answers are
-- those of the list's history, and the image is blank as long as no start has come, else it holds the entries that the list's history leaves.
pub after_any_history : (m n : ℕ) (ws : List ℕ) (s : State) → Is m n ws s → (cs : List Call) → All Fitting cs
    → (map indexless (answers m n cs ws) ≡ state_answers m cs s) × Ends m n (image_after m n cs ws) (state_after m cs s)
after_any_history m n ws s i cs f = let r = history m n ws s i cs f in (r.0, ends (state_after m cs s) r.1)
  where
    ends : (t : State) → Is m n (image_after m n cs ws) t → Ends m n (image_after m n cs ws) t
    ends blank j = j
    ends (holding es) j = holding_accepted j.0 es j.1

-- Two histories, from whatever starts and with whatever M and N, that leave the same keys leave one shape.
pub same_keys_same_shape : {m n m' n' : ℕ} {ws vs : List ℕ} {es ds : Entries} (a : Holding m n ws es) (b : Holding m' n' vs ds) → keys_of es ≡ keys_of ds
    → shape_is a.image.tree ≡ shape_is b.image.tree
same_keys_same_shape a b e = a.shaped ∙ ap shape e ∙ sym b.shaped

-- "Each call rewrites at most five node records, one value record and the header": on any image.
pub rewrites_at_most_five : (m n : ℕ) (ws : List ℕ) (c : Call) → Touched m n ws (image_left m n c ws)
rewrites_at_most_five m n ws start = start_touched m n ws
rewrites_at_most_five m n ws (insert key v) = insert_touched m n ws key v
rewrites_at_most_five m n ws (remove key) = remove_touched m n ws key
rewrites_at_most_five m n ws (write key v) = write_touched m n ws key v
rewrites_at_most_five m n ws (ask q) = untouched

-- ---- nothing of this is empty, and the bound is reached

-- Every ascending list of at most M entries is held by an image that calls made of blank memory.
pub every_list_held : (m n : ℕ) → Limits m n → (es : Entries) → Rising es → All FitsEntry es → length es ≤ m → Holding m n (image_after m n (start ∷ inserts es) (zero_words m n)) es
every_list_held m n l es r f long = let a = every_list m n l es r f long in holding_accepted a.0 es a.1

-- "B and all 128 powers of two: B's path is 129 nodes": no bound below 129 holds.
pub paths_of_129 : (cs : List Call) × ((a : Accepted 129 258 (image_after 129 258 cs (zero_words 129 258))) × (longest a.tree ≡ 129))
paths_of_129 = bound_reached

-- "One constant answer fails the list after two inserts. Doing nothing fails the list": the answers of one history on 140 zero words, and no answers that depend on the call alone are these.
pub empty_versions_fail : (map indexless (answers 4 8 story (zero_words 4 8)) ≡ told) × ((f : Call → Answer) → map indexless (answers 4 8 story (zero_words 4 8)) ≢ map f story)
empty_versions_fail = (story_told, none_fixed)
