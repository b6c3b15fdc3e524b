use Rattle.std.proofs.Common.{◌≡◌, ℕ, ◌+◌, ◌-◌, ◌^◌, ◌<◌, Option, Some, None, rules, arith}
use lib.Bits.{bit_and, and_zero_r}
use Rattle.std.specs.Option.{MatchOption}
use Rattle.bundles.proofs.Sets.{less-bits, and_not}
use Rattle.solver.specs.Choosing.{pieces_of}
use Rattle.solver.specs.declared.outcome.Taken.{Taken}
use Rattle.solver.proofs.choosing.left_over.Goals as goal

left : (got : Option Taken) (free r : ℕ) (K : Taken → Type 0) → MatchOption got (r ≡ free) K → ((x : Taken) → K x → r + bit_and free x.bid.on.mask ≡ free) → r + bit_and free (pieces_of got) ≡ free
left None free r K is each = omega (arith, is, and_zero_r free)
left (Some x) free r K is each = each x is

cleared : (free r : ℕ) → free < 2 ^ 64 → (x : Taken) → x.bid.on.mask < 2 ^ 64 → r ≡ bit_and free (18446744073709551615 - x.bid.on.mask) → r + bit_and free x.bid.on.mask ≡ free
cleared free r small x below is = rw is (and_not 64 free x.bid.on.mask small below)

pub returns-clause-less : goal.returns-clause-less
returns-clause-less c = λ n. less-bits n 16 c.args.free _ _ (search rules) (left c.args.got c.args.free c.map_or.result _ c.map_or.ensures (λ x k. cleared _ _ (search rules) x (search rules) (search rules)))

pub returns-clause-no_more : goal.returns-clause-no_more
returns-clause-no_more c = omega (arith, left c.args.got c.args.free c.map_or.result _ c.map_or.ensures (λ x k. cleared _ _ (search rules) x (search rules) (search rules)))
