-- A step of a listing at one of its ends: rules L3 to L7, and the Rust's `next` and `next_back`. Both ends are one definition over the side: at the front
-- the near child is Left and at the back it is Right.
use Rattle.std.specs.Prelude.{◌≡◌, refl, List, Bool, true, false, cond, not, ◌&&◌, ◌||◌, ℕ, zero, suc, ◌+◌, ◌-◌, length, get_or, set, eqb, leb, ltb, Err, None, Ok, Option, Result, Some}
use Rattle.records.specs.declared.Value.{Value}
use Rattle.records.specs.declared.Header.{Header}
use Rattle.records.specs.declared.Node.{Node}
use Rattle.records.specs.declared.NodeIndex.{NodeIndex}
use Rattle.records.specs.declared.ValueIndex.{ValueIndex}
use Rattle.records.specs.declared.Refusal.{Refusal}
use Rattle.records.specs.declared.Refusal.TheVariants as no
use Rattle.inspection.specs.declared.Visited.{Visited}
use Rattle.inspection.specs.declared.Visited.TheVariants as visited
use Rattle.inspection.specs.Tests.{shape_ok, node_ok}
use Rattle.inspection.specs.Visit.{visit_of, first_of, live_of}
use Rattle.inspection.specs.Opening.{open_of}
use Rattle.listing.specs.declared.Stack.{Stack}
use Rattle.listing.specs.declared.Opens.{Opens}
use Rattle.listing.specs.declared.Opens.TheVariants.{On, Came, Spoiled}
use Rattle.listing.specs.declared.Reached.{Reached}
use Rattle.listing.specs.declared.Moved.{Moved}
use Rattle.listing.specs.declared.Position.{Position}
use Rattle.listing.specs.declared.Stepped.{Stepped}
use Rattle.listing.specs.Position.{most_places}

-- ---- popping and opening nodes until a leaf comes

abbrev pub near_of : Bool → Node → NodeIndex
near_of back x = cond back x.right x.left

abbrev pub far_of : Bool → Node → NodeIndex
far_of back x = cond back x.left x.right

-- which is the child on the other side
pub far_child : (back : Bool) (x : Node) → cond (not back) x.right x.left ≡ far_of back x
far_child true x = refl
far_child false x = refl

-- Opening a node tests both children. Both pass through the stack, the far one first, though the near one is popped at once; a stack that would pass 129 is
-- damage.
unfoldable pub open_turn : Bool → Header → List ℕ → ℕ → NodeIndex → Visited → Opens
open_turn back h ws count i (visited.Inner x) =
    cond ((leb (count + 2) most_places && ltb x.prefix 128) && node_ok h ws (far_of back x).0 i.0 (x.prefix + 1))
    (On (far_of back x) (near_of back x) (visit_of h ws (near_of back x).0 i.0 (x.prefix + 1)))
    Spoiled
open_turn back h ws count i (visited.Leaf x) = Came
open_turn back h ws count i visited.Damaged = Spoiled

abbrev pub reached_at : Visited → List NodeIndex → ℕ → NodeIndex → Reached
reached_at came places count i = record { came = came; places = places; count = count; leaf = i }

abbrev pub open_by : (NodeIndex → NodeIndex → Visited → Reached) → List NodeIndex → ℕ → NodeIndex → Visited → Opens → Reached
open_by go places count i came (On wait next what) = go wait next what
open_by go places count i came Came = reached_at came places count i
open_by go places count i came Spoiled = reached_at visited.Damaged places count i

-- from node i on, which a visit found to be `came`
unfoldable pub open_to : ℕ → Bool → Header → List ℕ → List NodeIndex → ℕ → NodeIndex → Visited → Reached
open_to zero back h ws places count i came = reached_at visited.Damaged places count i
open_to (suc fuel) back h ws places count i came =
    open_by (λ wait next what. open_to fuel back h ws (set (set places count wait) (count + 1) next) (count + 1) next what) places count i came (open_turn back h ws count i came)

-- The first node that a call pops has no known parent: it passes the visited-node test without Parent, prefix order and the root's rule. Prefix lengths rise
-- from there: 129 nodes at most.
abbrev pub top_of : Stack → NodeIndex
top_of s = get_or s.places (s.count - 1) (record { 0 = 0 })

unfoldable pub pop_to : Bool → Header → List ℕ → Stack → Reached
pop_to back h ws s = open_to 129 back h ws s.places (s.count - 1) (top_of s) (first_of h ws (top_of s).0)

-- ---- what the leaf comes to

abbrev pub lost : Stack → Moved
lost s = record { near = s; ended = false; entry = Err no.Damaged }

-- its value record is tested, and the entry given
unfoldable pub live_moved : Stack → Reached → Node → Option Value → Moved
live_moved s o x (Some v) =
    record { near = record { places = o.places; count = o.count; last = x.value }; ended = false; entry = Ok (x.key, v) }
live_moved s o x None = lost s

-- The ends meet where the leaf names the value record that the other end gave last: the mark is set, and no value is read.
unfoldable pub leaf_moved : ℕ → List ℕ → Stack → ValueIndex → Reached → Node → Moved
leaf_moved n ws s far o x =
    cond (eqb x.value.0 far.0)
    (record { near = record { places = o.places; count = o.count; last = s.last }; ended = true; entry = Err no.Absent })
    (live_moved s o x (live_of n ws o.leaf.0 x.value.0))

abbrev pub came_moved : ℕ → List ℕ → Stack → ValueIndex → Reached → Visited → Moved
came_moved n ws s far o (visited.Leaf x) = leaf_moved n ws s far o x
came_moved n ws s far o (visited.Inner x) = lost s
came_moved n ws s far o visited.Damaged = lost s

unfoldable pub opened_moved : ℕ → List ℕ → Stack → ValueIndex → Reached → Moved
opened_moved n ws s far o = came_moved n ws s far o o.came

-- an ended listing and an empty stack stay as they are
unfoldable pub moved_of : Bool → ℕ → Header → List ℕ → Bool → Stack → ValueIndex → Moved
moved_of back n h ws ended s far =
    cond (ended || eqb s.count 0) (record { near = s; ended = ended; entry = Err no.Absent }) (opened_moved n ws s far (pop_to back h ws s))

-- ---- a step

abbrev pub near_end : Bool → Position → Stack
near_end back p = cond back p.back p.front

abbrev pub far_end : Bool → Position → Stack
far_end back p = cond back p.front p.back

abbrev pub with_near : Bool → Position → Moved → Position
with_near back p m = cond back (record { front = p.front; back = m.near; ended = m.ended }) (record { front = m.near; back = p.back; ended = m.ended })

abbrev pub refused_step : Position → Refusal → Stepped
refused_step p r = record { entry = Err r; position = p }

unfoldable pub opened_step : Bool → ℕ → List ℕ → Position → Result Header Refusal → Stepped
opened_step back n ws p (Ok h) =
    record {
      entry = (moved_of back n h ws p.ended (near_end back p) (far_end back p).last).entry;
      position = with_near back p (moved_of back n h ws p.ended (near_end back p) (far_end back p).last);
    }
opened_step back n ws p (Err r) = refused_step p r

-- 1, then 6, then the header (2), then 4 or what the nodes tell
unfoldable pub step_of : Bool → ℕ → ℕ → List ℕ → Position → Stepped
step_of back m n ws p =
    cond (shape_ok m n (length ws))
    (cond (leb p.front.count most_places && leb p.back.count most_places) (opened_step back n ws p (open_of m n ws)) (refused_step p no.Cursor))
    (refused_step p no.Shape)
