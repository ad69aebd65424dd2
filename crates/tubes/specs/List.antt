-- 01's list of the tubes of a protein with some segments.
use Rattle.std.specs.Prelude.{List}
use Rattle.protein.specs.Places.{far_by}
use Rattle.tubes.specs.Tubes.{Tube, tubes}
use Rattle.protein.specs.Job.{Segments}
use Rattle.protein.specs.Protein.{Protein}

-- 01's list of tubes
unfoldable pub tube_list : Protein → Segments → List Tube
tube_list P G = tubes P.job G (far_by P.place)
