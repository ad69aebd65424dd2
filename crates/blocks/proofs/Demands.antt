-- WHAT A PRINT SHOP MAY RELY ON of a file that is written block by block. Assumes nothing.
use Prim.Native.Nat.{ℕ, ◌/◌}
use mathlib.Core.List.{List, ◌++◌}
use mathlib.Core.Path.{◌≡◌, refl}
use lib.Ieee.{Float}
use lib.ListN.{length}
use Rattle.lists.specs.Put.{upto}
use Rattle.facets.specs.Facets.{stl_head, stl_bytes}
use Rattle.blocks.specs.Blocks.{block_at, block_count}
use Rattle.blocks.proofs.Laws.{all_blocks}

-- behind the head the blocks, one after the other, are the whole file: no facet is left out, and none stands twice
pub blocks_make_file : (positions : List Float) (triangles : List ℕ)
    → stl_head (length triangles / 3) ++ upto (block_at positions triangles) (block_count (length triangles / 3))
    ≡ stl_bytes positions triangles (length triangles / 3)
blocks_make_file positions triangles = all_blocks positions triangles (length triangles / 3) refl
