-- Checks 9 and 10 (11 is `tight` of buffers/specs/Outs), and the scratch after a call that passed check 9: 01, 'Refusal numbers' and 'Lent buffers'.
use Rattle.std.specs.Prelude.{ℕ, ◌*◌, List, ◌++◌, Bool, cond, ◌||◌, length, drop, replicate, ltb, Float}
use Rattle.std.specs.Float.{binary32}
use Rattle.std.specs.Float.Ieee.{of_bits}
use Rattle.protein.specs.declared.Head.{Head}
use Rattle.tubes.specs.Tubes.{Tube}
use Rattle.mesh.specs.Mesh.{vertex_sum}
use Rattle.buffers.specs.Outs.{Outs, Sizes, most_vertices, sizes_of}
use Rattle.walk.specs.declared.Five.{Five}
use Rattle.walk.specs.declared.Totals.{Totals}
use Rattle.buffers.specs.declared.Counts.{Counts}

-- what is lent, in places; no answer depends on more of a buffer than its length
pub record Lent : Type 0 where
  pub outs : Sizes
  pub words : ℕ
  pub floats : ℕ

-- the lent scratch, and all that is lent to build: what the buffers hold
pub record Scratch : Type 0 where
  pub words : List ℕ
  pub floats : List Float

pub record Buffers : Type 0 where
  pub outs : Outs
  pub scratch : Scratch

abbrev pub scratch : List ℕ → List Float → Scratch
scratch w f = record { words = w; floats = f }

abbrev pub buffers : Outs → List ℕ → List Float → Buffers
buffers o w f = record { outs = o; scratch = scratch w f }

-- how long they are
abbrev pub lent : Buffers → Lent
lent b = record { outs = sizes_of b.outs; words = length b.scratch.words; floats = length b.scratch.floats }

-- 'all five 0'
abbrev pub no_words : Five
no_words = record { kind = 0; first = 0; length = 0; vertex = 0; triangle = 0 }

-- the totals before the first tube, where tube k's words are asked for
abbrev pub start : ℕ → Totals
start k = record { tubes = 0; vertices = 0; triangles = 0; wanted = k; words = no_words }

-- K, V and T of a walk's totals
abbrev pub counts_in : Totals → Counts
counts_in t = record { tubes = t.tubes; vertices = t.vertices; triangles = t.triangles }

-- 9: 'scratch under 8R u32 or 32R f32'
unfoldable pub short_scratch : Head → ℕ → ℕ → Bool
short_scratch h words floats = ltb words (8 * h.residues) || ltb floats (32 * h.residues)

-- 10: 'V above 1,048,576'
unfoldable pub too_many : List Tube → Bool
too_many us = ltb most_vertices (vertex_sum us)

-- the first n places are z, 'all others .. are unchanged'
abbrev pub zeroed : {A : Type 0} → A → ℕ → List A → List A
zeroed z n t = replicate n z ++ drop n t

-- 'After any call that passes check 9 the first 8R and the first 32R of them are 0 (plus zero)'
abbrev pub cleared_words : Head → List ℕ → List ℕ
cleared_words h w = zeroed 0 (8 * h.residues) w

abbrev pub cleared_floats : Head → List Float → List Float
cleared_floats h f = zeroed (of_bits binary32 0) (32 * h.residues) f

abbrev pub cleared : Head → Scratch → Scratch
cleared h c = scratch (cleared_words h c.words) (cleared_floats h c.floats)

-- the scratch after the call of a job with the counts h, past checks 1 to 8: 'after a refusal at .. check 9 .. unchanged'
abbrev pub scratch_past : Head → Scratch → Scratch
scratch_past h c = cond (short_scratch h (length c.words) (length c.floats)) c (cleared h c)
