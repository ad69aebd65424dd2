-- What one tube leaves in the six lent output buffers.
use Rattle.std.specs.Prelude.{ℕ, ◌*◌, ◌≤◌, ◌<◌, List, [], ◌∷◌, length, get_or}
use Rattle.lists.specs.Put.{put}
use Rattle.vectors.specs.declared.Vec3.{Vec3}
use Rattle.skin.specs.Tube.{tags_of}
use Rattle.edges.specs.Tube.{tube}
use Rattle.buffers.specs.Outs.{Outs}
use Rattle.mesh.specs.Mesh.{positions_by, normals_by, box_by}

-- every number of a list of atoms, counted from 1 and 0 for none, is at most the job's number of atoms
abbrev pub Atoms : ℕ → List ℕ → Type 0
Atoms most l = (i : ℕ) → i < length l → get_or l i 0 ≤ most

-- what a tube leaves in the buffers, where k tubes, v vertices and t triangles stand before it: of its kind, its first residue, its C-alphas and its oxygens
unfoldable pub written_by : (ℕ → Vec3) → ℕ → ℕ → List ℕ → List ℕ → ℕ → ℕ → ℕ → Outs → Outs
written_by place kind first alphas oxygens k v t o = record {
  positions = put o.positions (3 * v) (positions_by place kind alphas oxygens);
  normals = put o.normals (3 * v) (normals_by place kind alphas oxygens);
  tags = put o.tags v (tags_of first (length alphas));
  triangles = put o.triangles (3 * t) (tube 8 8 v (length alphas));
  tubes = put o.tubes (5 * k) (kind ∷ first ∷ length alphas ∷ v ∷ t ∷ []);
  boxes = put o.boxes (6 * k) (box_by place kind alphas oxygens);
}
