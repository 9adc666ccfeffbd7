-- The loop over the neighbours: what is summed at one of them, with those that are left, is the group's whole sum.
use Rattle.std.proofs.Common.{Option, Some, None, Result, Ok}
use mathlib.Core.Path.{◌≡◌, refl, sym, ap, subst, ◌∙◌}
use mathlib.Core.List.{List, [], ◌∷◌, map}
use Prim.Native.Nat.{ℕ, ◌*◌, ◌≤◌, ◌<◌}
use native.Mathlib.Omega.{arith}
use lib.ListN.{length, length-map}
use Rattle.bounds.specs.Pair.{Pair, add_p}
use Rattle.exact.specs.Share.{CableNumbers, Source, source_of, sources, InRange, InTrench, Accepted}
use Rattle.model.specs.Share.{cable_logarithm, cable_integral, source_logarithm, source_integral, group_integral, group_logarithm, Ranges}
use Rattle.model.specs.Integral.{heating_integral}
use Rattle.model.proofs.Group.{sources_beside}
use Rattle.attained.specs.Sums.{as_sums, with_source}
use Rattle.attained.specs.Asked.{CableAsked, JoinAsked, ShareAsked}
use Rattle.attained.specs.declared.Sums.{Sums}
use Rattle.attained.proofs.Group.{Summing, cable_sums_are, join_asked, joined_sums_are, summing_goes_on, summing_ends, cable_asked, summing_starts, share_asked}
use Rattle.cable_rules.specs.Group.{Group}
use Rattle.cable_rules.specs.InRange.{numbers_in}
use Rattle.cable_rules.specs.declared.Cable.{Cable}
use Rattle.sheet_rules.specs.Records.{record_at}
use Rattle.sheet_rules.specs.Walk.{reached, records_in}
use Rattle.sheet_rules.specs.Neighbours.{neighbour_of, most_depth, checked_neighbour, beside_first, above, neighbour_walk, neighbours_in}
use Rattle.sheet_rules.specs.Sheet.{group_in, walk_in}
use Rattle.sheet_rules.specs.declared.LoadRecord.{LoadRecord}
use Rattle.sheet_rules.specs.declared.Trench.{Trench}
use Rattle.sheet_rules.specs.declared.Ground.{Ground}
use Rattle.sheet_rules.proofs.Turns.{GoesOn, walk_ends, goes_on}
use Rattle.sheet_rules.proofs.NeighbourChecks.{accepted_neighbour, accepted_inside, links_rise, few_neighbours}
use Rattle.share_rules.specs.Pair.{seconds_of}
use Rattle.pair.specs.Sums.{sums_in, Timed, Summed}
use Rattle.refusals.specs.declared.Refusal.{Refusal}

-- a cable in use with the neighbours from a record's link on
abbrev pub group_from : List ℕ → Cable → LoadRecord → Group
group_from s used first = record { cable = used; neighbours = neighbours_in (neighbour_walk s used.diameter used.depth first) }

-- the sources of records
abbrev sources_of : ℕ → List LoadRecord → List Source
sources_of l rs = map (source_of l) (map neighbour_of rs)

abbrev heats : Group → ℕ → Pair
heats g seconds = let c = numbers_in g in group_integral c.d c.l c.s seconds (sources c)

abbrev logarithms : Group → Pair
logarithms g = let c = numbers_in g in group_logarithm c.d c.l (sources c)

pub record AtNeighbour (s : List ℕ) (g : Group) (seconds diffusion : ℕ) (sums : Sums) (at : LoadRecord) : Type 0 where
  pub ranges : InRange (numbers_in g)
  pub rest : List LoadRecord
  pub walk : neighbour_walk s g.cable.diameter g.cable.depth at ≡ reached rest
  pub heat : Pair
  pub logarithm : Pair
  pub is : sums ≡ as_sums heat logarithm
  pub summing : Summing diffusion heat logarithm (sources_of g.cable.depth rest) (heats g seconds) (logarithms g)

-- ---- where it begins

in_ranges_lem : (c : CableNumbers) (m : ℕ) → Accepted c m → Ranges c.d c.l c.s c.k c.w (seconds_of m)
in_ranges_lem c m a = omega (arith, a)

module _ {on : Ground} {seconds : ℕ} (summed : Summed on seconds) where
  abbrev s : List ℕ
  s = on.sheet.now

  abbrev t : Trench
  t = on.trench

  abbrev c : CableNumbers
  c = numbers_in (group_in s t)

  timed : Timed on summed.minutes
  timed = summed.timed

  in_range : Ranges c.d c.l c.s c.k c.w seconds
  in_range = rw summed.seconds_are (in_ranges_lem c summed.minutes timed.accepted)

  -- "0 to 48" records hold no more neighbours
  few : length (sources c) ≤ 48
  few =
      let n = few_neighbours t.cable.diameter t.cable.depth s (beside_first t.neighbours) in
      rw (length-map (neighbours_in (walk_in s t)) (source_of c.l), length-map (records_in (walk_in s t)) neighbour_of) n

  pub begins_asked : CableAsked c.d c.l (8 * seconds * c.s)
  begins_asked = cable_asked in_range

  pub begins : {sums : Sums} → sums ≡ as_sums (heating_integral (5 * c.d * c.d) (8000 * c.l * c.l) (8 * seconds * c.s) (cable_logarithm c.d c.l).high) (cable_logarithm c.d c.l)
      → AtNeighbour s (group_in s t) seconds (8 * seconds * c.s) sums (beside_first t.neighbours)
  begins e =
      record {
        ranges = timed.accepted.cable;
        rest = records_in (walk_in s t);
        walk = on.laid.records;
        heat = cable_integral c.d c.l c.s (seconds);
        logarithm = cable_logarithm c.d c.l;
        is = e ∙ cable_sums_are c.d c.l c.s (seconds);
        summing = summing_starts in_range (sources_beside timed.accepted) few;
      }

  -- .. and what the share asks of the sums at the end
  pub share_of_sums_asked : {sums : Sums} → sums ≡ sums_in (group_in s t) seconds → ShareAsked sums c.k c.w c.fast c.slow (seconds)
  share_of_sums_asked e =
      let r = timed.accepted.cable in
      share_asked in_range (sources_beside timed.accepted) few e r.fast_to (omega (arith, r.slow_to, r.fast_to))

-- ---- one turn

module _ {s : List ℕ} {g : Group} {seconds diffusion : ℕ} {sums : Sums} {at : LoadRecord} (a : AtNeighbour s g seconds diffusion sums at) where
  abbrev check : LoadRecord → Option LoadRecord → Result LoadRecord Refusal
  check = checked_neighbour g.cable.diameter g.cable.depth

  rising : (r n : LoadRecord) → check r (record_at s r.next) ≡ Ok n → above n < above r
  rising = links_rise g.cable.diameter g.cable.depth s

  pub ends : at.next ≡ 0 → sums ≡ sums_in g seconds
  ends z =
      let none : reached [] ≡ reached a.rest = sym (walk_ends check above s rising at z) ∙ a.walk in
      let nothing : a.rest ≡ [] = cc in
      let e = summing_ends (subst (λ rs. Summing diffusion a.heat a.logarithm (sources_of g.cable.depth rs) (heats g seconds) (logarithms g)) nothing a.summing) in
      rw (a.is, e.0, e.1) refl

  module _ (z : at.next ≡ 0 → ⊥) {read : Option LoadRecord} (i : read ≡ record_at s at.next) where
    on : GoesOn check above s at a.rest
    on = goes_on check above s rising at z a.walk

    held : read ≡ Some on.next
    held = i ∙ (accepted_neighbour g.cable.diameter g.cable.depth at (record_at s at.next) on.accepted).held

    pub not_missing : read ≡ None → ⊥
    not_missing e = let y : ◌≡◌ {A = ℕ} 0 1 = cc (held, e) in absurd (omega arith)

    module _ {next : LoadRecord} (e : read ≡ Some next) where
      same : on.next ≡ next
      same = let y : Some on.next ≡ Some next = sym held ∙ e in cc

      inside : InTrench (numbers_in g) (neighbour_of next)
      inside = subst (λ n. InTrench (numbers_in g) (neighbour_of n)) same (accepted_inside g.cable.diameter g.cable.depth s (numbers_in g) refl refl at on.next on.accepted)

      pub depths : (g.cable.depth ≤ most_depth) × (next.amperes ≤ most_depth)
      depths = (a.ranges.l_to, inside.depth_to)

      pub nearer : above next < above at
      nearer = subst (λ n. above n < above at) same (rising at on.next on.accepted)

      first_left : Summing diffusion a.heat a.logarithm (source_of g.cable.depth (neighbour_of next) ∷ sources_of g.cable.depth on.rest) (heats g seconds) (logarithms g)
      first_left =
          subst (λ rs. Summing diffusion a.heat a.logarithm (sources_of g.cable.depth rs) (heats g seconds) (logarithms g)) (on.records ∙ ap (λ n. n ∷ on.rest) same) a.summing

      module _ {near image : ℕ} (en : near ≡ (source_of g.cable.depth (neighbour_of next)).near) (ei : image ≡ (source_of g.cable.depth (neighbour_of next)).image) where
        pub joining : JoinAsked sums near image diffusion
        joining = rw (en, ei) (join_asked first_left a.is)

        pub joined_next : {r : Sums} → r ≡ with_source diffusion sums (record { near = near; image = image }) → AtNeighbour s g seconds diffusion r next
        joined_next j =
            record {
              ranges = a.ranges;
              rest = on.rest;
              walk = subst (λ n. neighbour_walk s g.cable.diameter g.cable.depth n ≡ reached on.rest) same on.walk;
              heat = add_p a.heat (source_integral diffusion (source_of g.cable.depth (neighbour_of next)));
              logarithm = add_p a.logarithm (source_logarithm (source_of g.cable.depth (neighbour_of next)));
              is = joined_sums_are first_left a.is (rw (en, ei) at j);
              summing = summing_goes_on first_left;
            }
