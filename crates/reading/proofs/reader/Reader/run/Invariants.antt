use Rattle.std.proofs.Common.{◌≡◌, length}
use Rattle.reading.specs.Lines.{grown}
use Rattle.reading.specs.Runs.{Makes, Sorts}
use Rattle.reading.proofs.reader.Reader.run.Given as goal

abbrev pub invariant-loop-part : goal.invariant-loop-part
invariant-loop-part g l =
    (sort_of : _) (more_of : _) → Sorts (goal.S-post g l.sort) sort_of → Makes (goal.M-post g l.more) more_of → grown sort_of more_of l.made l.self ≡ grown sort_of more_of l.fn.start l.initial.self

abbrev pub decreases-loop-part : goal.decreases-loop-part
decreases-loop-part g l = length l.self
