use Rattle.std.proofs.Common.{Contains, sym, arith}
use Rattle.house.proofs.Words.{next_all, first_all, all_among}
use Rattle.house.proofs.options.wish_of.Goals as goal

pub loop-word-init : goal.loop-word-init
loop-word-init c =
    let words = c.args.words.now in
    ((omega arith, omega arith, omega arith, omega arith), tt {0}, next_all (Contains words) _ _ _ c.next.ensures.steps (all_among words _ c.iter-rest.ensures.rest))

pub loop-word-preserved-in-Some : goal.loop-word-preserved-in-Some
loop-word-preserved-in-Some c =
    let was = c.loop-word.invariant in
    let words = c.args.words.now in
    let here = first_all (Contains words) _ _ _ c.in-Some.ensures.steps was.2 in
    (was.0, (here.0, _, here.1, here.2, sym c.as_str.ensures.value), next_all (Contains words) _ _ _ c.next-in-loop-word.ensures.steps was.2)

pub loop-word-preserved : goal.loop-word-preserved
loop-word-preserved c =
    let was = c.loop-word.invariant in
    let words = c.args.words.now in
    let rest = next_all (Contains words) _ _ _ c.next-in-loop-word.ensures.steps was.2 in
    (c.in_ok-limits-in-text-2.ensures, was.1, next_all (Contains words) _ _ _ c.next-in-text-2.ensures.steps rest)
