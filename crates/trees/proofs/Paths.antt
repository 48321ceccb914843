-- No path has more nodes than the smaller of the number of entries and 129, and 129 is reached.
use Rattle.std.specs.Prelude.{◌≡◌, refl, true, false, ℕ, zero, suc, ◌+◌, ◌*◌, ◌^◌, ◌≤◌, ◌<◌, min, length}
use Rattle.std.proofs.Common.{arith, mod-lt, lit<, length-append, shr_lt}
use Rattle.std.proofs.Math.Pow.{pow-lt}
use Rattle.keys.specs.Number.{Fits, number_of}
use Rattle.keys.specs.Common.{common, common_of, bit_of}
use Rattle.trees.specs.Tree.{Tree, leaf, inner, prefix_of, entries, entries_some, Ordered}
use Rattle.trees.proofs.Insert.{ordered_insert}
use Rattle.trees.specs.Paths.{depth, path_of, rising, key_at, powers}

-- ---- the bound

depth_prefix : (t : Tree) → Ordered t → depth t + prefix_of t ≤ 129
depth_prefix (leaf i k v) o = omega arith
depth_prefix (inner i k p l r) o =
    let on_left = rising k false l o.low o.left o.on_left in
    let on_right = rising k true r o.low o.right o.on_right in
    omega (arith, depth_prefix l o.on_left, depth_prefix r o.on_right)

depth_entries : (t : Tree) → depth t ≤ length (entries t)
depth_entries (leaf i k v) = omega arith
depth_entries (inner i k p l r) = simp length-append (omega (arith, depth_entries l, depth_entries r, entries_some l, entries_some r))

-- No path has more nodes than the smaller of the number of entries and 129.
pub depth_bound : (t : Tree) → Ordered t → depth t ≤ min (length (entries t)) 129
depth_bound t o = omega (arith, depth_prefix t o, depth_entries t)

fits_power : {d : ℕ} → d < 128 → Fits (key_at (2 ^ d))
fits_power {d} h = record { high_fits = shr_lt 64 64 (pow-lt h); low_fits = mod-lt (2 ^ d) (lit< tt) }

ordered_powers : (d : ℕ) → d ≤ 128 → Ordered (powers d)
ordered_powers zero h = record { high_fits = lit< tt; low_fits = lit< tt }
ordered_powers (suc d) h = ordered_insert (key_at (2 ^ d)) (d + 2) (2 * d + 2) (2 * d + 3) (powers d) (fits_power h) (ordered_powers d (omega arith))

-- Inserting them makes an ordered tree in which B's path has 129 nodes.
pub longest_path : Ordered (powers 128) × (path_of (key_at 0) (powers 128) ≡ 129) × (depth (powers 128) ≡ 129) × (length (entries (powers 128)) ≡ 129)
unfolding number_of common common_of bit_of
longest_path = (ordered_powers 128 (omega arith), refl, refl, refl)
