-- 01's starred bench cases hold, as one theorem, and so do its other worked cases: antt computes each. The cases are in specs/Table.
use lib.Dec.{T}
use Rattle.starred.specs.Tests.{every}
use Rattle.starred.specs.Table.{starred, others}

pub starred_hold : T (every starred)
unfolding every starred
starred_hold = tt

pub others_hold : T (every others)
unfolding every others
others_hold = tt
