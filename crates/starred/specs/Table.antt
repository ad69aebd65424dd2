-- THE TABLE: 01's bench cases. `starred` has the cases of its bullets that are marked *, in its order, each beside its sentence; `others` has the other
-- worked ones. What a case says is in Tests. That all of them hold is `starred_hold` and `others_hold` of proofs/Table.
use Rattle.std.specs.Prelude.{List, [], ◌∷◌, ◌++◌, replicate}
use Rattle.starred.specs.Jobs.{empty, one_residue, two_residues, six_residues, backwards, lone}
use Rattle.starred.specs.Tests.{helix, coil, room_for, Case, written, list, totals, words, built, refused, unplanned, counts, rings, corners, tags}
use Rattle.starred.specs.Tests.{half, first_vertex, box, boxes, positions, guides, cut, kept, roots, narrows}

unfoldable pub starred : List Case
unfolding empty one_residue six_residues
starred =
    -- 'The empty 13-byte job, length field 9: K, V, T all 0'
    written empty 13 (0 ∷ 0 ∷ 0 ∷ 9 ∷ 1 ∷ 0 ∷ 0 ∷ 0 ∷ 0 ∷ 0 ∷ 0 ∷ 0 ∷ 0 ∷ [])
    ∷ totals empty 0 (0 ∷ 0 ∷ 0 ∷ [])
    ∷ built empty (room_for 0 0 0 0) (0 ∷ 0 ∷ 0 ∷ [])
    -- 'n = 1 gives none'
    ∷ counts 1 0 0
    ∷ list one_residue []
    ∷ totals one_residue 1 (0 ∷ 0 ∷ 0 ∷ [])
    -- 'n = 2 gives 9 rings, 74, 144; n = 3 gives 138, 272'
    ∷ rings 2 9
    ∷ counts 2 74 144
    ∷ counts 3 138 272
    -- 'Six residues 4 apart in one chain, helix over 2 and 3: helix (2,3), coils (0,1,2), (3,4,5)'
    ∷ list six_residues (helix (2 ∷ 3 ∷ []) ∷ coil (0 ∷ 1 ∷ 2 ∷ []) ∷ coil (3 ∷ 4 ∷ 5 ∷ []) ∷ [])
    -- 'V 350, T 688'
    ∷ totals six_residues 6 (3 ∷ 350 ∷ 688 ∷ [])
    -- 'Vertex room 349 gives 11, 350 succeeds'
    ∷ refused six_residues (room_for 349 688 3 6) 11 (3 ∷ 350 ∷ 688 ∷ [])
    ∷ built six_residues (room_for 350 688 3 6) (3 ∷ 350 ∷ 688 ∷ [])
    -- 'Step (3,4,0) is not cut; a step of f32 bits 40A00001 along x is'
    ∷ kept 0x40400000 0x40800000 0
    ∷ cut 0x40A00001 0 0
    -- 'Square root: 2.0 gives 3FB504F3; 4.0 gives 2.0; -0 gives -0'
    ∷ roots 0x40000000 0x3FB504F3
    ∷ roots 0x40800000 0x40000000
    ∷ roots 0x80000000 0x80000000
    -- 'Narrowing: 3FB999999999999A gives 3DCCCCCD; 1+2^-24 gives 1; 1+3*2^-24 gives 3F800002; 2^-150 gives 0'
    ∷ narrows 0x3FB999999999999A 0x3DCCCCCD
    ∷ narrows 0x3FF0000010000000 0x3F800000
    ∷ narrows 0x3FF0000030000000 0x3F800002
    ∷ narrows 0x3690000000000000 0
    -- 'Sheet n = 3: guide half-size at 0.875 is 1.0, at 1.0 is 1.5, at 1.5 is 0.75, at 2.0 is 0.01': samples 7, 8, 12 and 16
    ∷ half 3 7 0x3F800000
    ∷ half 3 8 0x3FC00000
    ∷ half 3 12 0x3F400000
    ∷ half 3 16 0x3C23D70A
    -- 'First triangles at n = 2: (8,1,0), eight in all, then (0,10,9), (0,1,10); end cap starts (73,65,66)': it is triangles 136 to 143
    ∷ corners 2 0 (8 ∷ 1 ∷ 0 ∷ 8 ∷ 2 ∷ 1 ∷ 8 ∷ 3 ∷ 2 ∷ 8 ∷ 4 ∷ 3 ∷ 8 ∷ 5 ∷ 4 ∷ 8 ∷ 6 ∷ 5 ∷ 8 ∷ 7 ∷ 6 ∷ 8 ∷ 0 ∷ 7 ∷ [])
    ∷ corners 2 8 (0 ∷ 10 ∷ 9 ∷ 0 ∷ 1 ∷ 10 ∷ [])
    ∷ corners 2 136 (73 ∷ 65 ∷ 66 ∷ [])
    -- 'Tags 0 for vertices 0 to 32, 1 for 33 to 73'
    ∷ tags 2 (replicate 33 0 ++ replicate 41 1)
    ∷ []

unfoldable pub others : List Case
unfolding two_residues six_residues backwards lone
others =
    -- 'Coordinate 16384 passes; the next f64 above gives 8'
    built (lone 0x40D0000000000000) (room_for 0 0 0 0) (0 ∷ 0 ∷ 0 ∷ [])
    ∷ refused (lone 0x40D0000000000001) (room_for 0 0 0 0) 8 (0 ∷ [])
    -- '80 bytes beginning `00 00 00 4C 01 00 01 00 02 00 00 00 02 01`'
    ∷ written two_residues 80 (0 ∷ 0 ∷ 0 ∷ 0x4C ∷ 1 ∷ 0 ∷ 1 ∷ 0 ∷ 2 ∷ 0 ∷ 0 ∷ 0 ∷ 2 ∷ 1 ∷ [])
    -- 'tubes 1 vertices 74 triangles 144'
    ∷ totals two_residues 2 (1 ∷ 74 ∷ 144 ∷ [])
    -- 'tube 0 kind 0 residue 0 length 2 vertex 0 triangle 0'
    ∷ words two_residues 2 0 (0 ∷ 0 ∷ 2 ∷ 0 ∷ 0 ∷ [])
    -- 'tube k's five words, all five 0 if k is K or more'
    ∷ words two_residues 2 1 (0 ∷ 0 ∷ 0 ∷ 0 ∷ 0 ∷ [])
    -- 'its scratch serves R up to 512, and more gives 9': here it serves R up to 1
    ∷ unplanned two_residues 1 9 (0 ∷ [])
    -- 'first vertex at (0,0,-0.25) with normal (0,0,-1)'
    ∷ first_vertex two_residues 0xBE800000 0xBF800000
    -- 'Start above end is a segment with no atoms': the helix covers nothing, and all six residues are one coil
    ∷ list backwards (coil (0 ∷ 1 ∷ 2 ∷ 3 ∷ 4 ∷ 5 ∷ []) ∷ [])
    -- 02 §2, 'all else about it stays', of vertices (3,0,-0), (0,-0,0), (-0,1,-0): least x is the 0 that stands before -0, least y the 0 and greatest z the -0
    ∷ box (0x40400000 ∷ 0 ∷ 0x80000000 ∷ 0 ∷ 0x80000000 ∷ 0 ∷ 0x80000000 ∷ 0x3F800000 ∷ 0x80000000 ∷ [])
    (0 ∷ 0 ∷ 0x80000000 ∷ 0x40400000 ∷ 0x3F800000 ∷ 0x80000000 ∷ [])
    -- 02 §2, 'A box now takes the vertices of its tube': of the two residues at (0,0,0) and (4,0,0), from (0,-0.25,-0.25) to (4,0.25,0.25)
    ∷ boxes two_residues (0 ∷ 0xBE800000 ∷ 0xBE800000 ∷ 0x40800000 ∷ 0x3E800000 ∷ 0x3E800000 ∷ [])
    -- 02 §3, 'the previous neighbour's old value', of positions (0,0,0), (4,0,0), (4,4,0), (8,4,0): a pass leaves (3,1,0) and (5,3,0) between the ends
    ∷ positions 1 (0 ∷ 0 ∷ 0 ∷ 0x40800000 ∷ 0 ∷ 0 ∷ 0x40800000 ∷ 0x40800000 ∷ 0 ∷ 0x41000000 ∷ 0x40800000 ∷ 0 ∷ [])
    (0 ∷ 0 ∷ 0 ∷ 0x40400000 ∷ 0x3F800000 ∷ 0 ∷ 0x40A00000 ∷ 0x40400000 ∷ 0 ∷ 0x41000000 ∷ 0x40800000 ∷ 0 ∷ [])
    -- and of guides x, y, -x: an end is its own neighbour, and y stays, since x + 2y - x is 2y
    ∷ guides 1 (0x3F800000 ∷ 0 ∷ 0 ∷ 0 ∷ 0x3F800000 ∷ 0 ∷ 0xBF800000 ∷ 0 ∷ 0 ∷ [])
    (0x3F72DCE8 ∷ 0x3EA1E89B ∷ 0 ∷ 0 ∷ 0x3F800000 ∷ 0 ∷ 0xBF72DCE8 ∷ 0x3EA1E89B ∷ 0 ∷ [])
    -- of guides x, -x, x the middle one has the sum 0, whose length is below 1e-8, and stays
    ∷ guides 1 (0x3F800000 ∷ 0 ∷ 0 ∷ 0xBF800000 ∷ 0 ∷ 0 ∷ 0x3F800000 ∷ 0 ∷ 0 ∷ [])
    (0x3F800000 ∷ 0 ∷ 0 ∷ 0xBF800000 ∷ 0 ∷ 0 ∷ 0x3F800000 ∷ 0 ∷ 0 ∷ [])
    -- the tubes of the six residues stand one after the other
    ∷ words six_residues 6 0 (1 ∷ 2 ∷ 2 ∷ 0 ∷ 0 ∷ [])
    ∷ words six_residues 6 1 (0 ∷ 0 ∷ 3 ∷ 74 ∷ 144 ∷ [])
    ∷ words six_residues 6 2 (0 ∷ 3 ∷ 3 ∷ 212 ∷ 416 ∷ [])
    ∷ []
