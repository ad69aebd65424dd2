-- Laws of shares, for whoever calls with them: of one buffer, any list, and of all six. Assumes nothing.
use Prim.Native.Nat.{ℕ, ◌+◌, ◌-◌, ◌<◌, ◌≤◌}
use mathlib.Core.Bool.{false}
use mathlib.Core.List.{List, [], ◌∷◌, ◌++◌}
use mathlib.Core.Path.{◌≡◌, refl, sym, ◌∙◌, ap, subst}
use mathlib.Core.Logic.{◌⊎◌, ⊎_elim}
use native.Mathlib.Nat.{add-sub_cancel_left}
use native.Mathlib.Omega.{arith}
use lib.ListN.{length, get_or, take, drop, length-append, length-take, length-drop, take-append-drop, get_or-append}
use lib.Seq.{length-take-le, take_at, drop_at, take-append-le, drop-append-add, take-add, take-take, drop-drop, get_or-append-add, get_or-take, get_or-drop}
use Rattle.lists.proofs.Any.{part_place}
use Rattle.lists.proofs.Bools.{or_no}
use Rattle.buffers.specs.Outs.{Outs, outs, Sizes, sizes, sizes_of}
use Rattle.shares.specs.declared.Share.{Share}
use Rattle.shares.specs.declared.Shares.{Shares}
use Rattle.shares.specs.Shares.{part, within, bad_share, Clear, bad_shares, share_of, with_share, share_sizes, Fits, Apart}
use Rattle.shares.proofs.Tests.{bad_not, not_bad, bad_swap}

-- ---- one buffer: a part that is lent

-- what `&mut l[a..e]` lends, where e is the share's end, and what l is when it is given back
abbrev pub lent_part : {A : Type 0} → Share → List A → List A
lent_part s l = take (s.start + s.len - s.start) (drop s.start l)

abbrev pub lent_back : {A : Type 0} → Share → List A → List A → List A
lent_back s l xs = take s.start l ++ (xs ++ drop (s.start + s.len - s.start) (drop s.start l))

-- what is lent is the share
pub part_as : {A : Type 0} (s : Share) (l : List A) → lent_part s l ≡ part s l
unfolding part
part_as s l = ap (λ (n : ℕ). take n (drop s.start l)) (add-sub_cancel_left s.start s.len)

-- what is given back stands in its place
pub back_as : {A : Type 0} (s : Share) (l xs : List A) → lent_back s l xs ≡ within s l xs
unfolding within
back_as s l xs = ap (λ (n : ℕ). take s.start l ++ (xs ++ drop n (drop s.start l))) (add-sub_cancel_left s.start s.len)

-- ---- one buffer: what is where

-- what stands there, put there again
pub within_part : {A : Type 0} (s : Share) (l : List A) → within s l (part s l) ≡ l
unfolding within part
within_part s l = rw (take-append-drop, take-append-drop)

-- a place of a share
pub part_at : {A : Type 0} (s : Share) (l : List A) (i : ℕ) (d : A) → i < s.len → get_or (part s l) i d ≡ get_or l (s.start + i) d
unfolding part
part_at s l i d h = sym (part_place l s.start s.len i d refl h)

-- a share that lies in the buffer has all its places
pub length_part : {A : Type 0} (s : Share) (l : List A) → s.start + s.len ≤ length l → length (part s l) ≡ s.len
unfolding part
length_part s l f = simp (length-take, length-drop) (omega arith)

-- where the share lies in the buffer, and xs is as long
module _ {A : Type 0} (s : Share) (l xs : List A) (f : s.start + s.len ≤ length l) (n : length xs ≡ s.len) where
  -- the buffer stays as long as it was
  pub length_within : length (within s l xs) ≡ length l
  unfolding within
  length_within = simp (length-append, length-take, length-drop) (omega arith)

  -- the places before it are as many as its start
  front : length (take s.start l) ≡ s.start
  front = length-take-le s.start l (omega arith)

  -- what stands from its start on
  drop_within : drop s.start (within s l xs) ≡ xs ++ drop s.len (drop s.start l)
  unfolding within
  drop_within = drop_at (take s.start l) (xs ++ drop s.len (drop s.start l)) s.start front

  -- what was put there stands there
  pub part_within : part s (within s l xs) ≡ xs
  unfolding part
  part_within = ap (take s.len) drop_within ∙ take_at xs (drop s.len (drop s.start l)) s.len n

  -- put there twice, the last stays
  pub within_within : (ys : List A) → within s (within s l xs) ys ≡ within s l ys
  unfolding within
  within_within ys =
      let d = drop s.len (drop s.start l) in
      let t : take s.start (take s.start l ++ (xs ++ d)) ≡ take s.start l = take_at (take s.start l) (xs ++ d) s.start front in
      let b : drop s.start (take s.start l ++ (xs ++ d)) ≡ xs ++ d = drop_within in
      rw (t, b, drop_at xs d s.len n)

  -- a place before it is as it was
  pub place_before : (i : ℕ) (d : A) → i < s.start → get_or (within s l xs) i d ≡ get_or l i d
  unfolding within
  place_before i d h =
      get_or-append (take s.start l) (xs ++ drop s.len (drop s.start l)) d i (omega (arith, front))
      ∙ get_or-take s.start l i d h

  -- and place j of that
  from_start : (j : ℕ) (d : A) → get_or (within s l xs) (s.start + j) d ≡ get_or (xs ++ drop s.len (drop s.start l)) j d
  unfolding within
  from_start j d =
      subst (λ (k : ℕ). get_or (within s l xs) (k + j) d ≡ get_or (xs ++ drop s.len (drop s.start l)) j d) front
      (get_or-append-add (take s.start l) (xs ++ drop s.len (drop s.start l)) j d)

  -- a place of it is one of what was put there
  pub inside : (i : ℕ) (d : A) → i < s.len → get_or (within s l xs) (s.start + i) d ≡ get_or xs i d
  inside i d h = from_start i d ∙ get_or-append xs (drop s.len (drop s.start l)) d i (omega arith)

  -- a place behind it is as it was
  pub place_behind : (i : ℕ) (d : A) → s.start + s.len ≤ i → get_or (within s l xs) i d ≡ get_or l i d
  place_behind i d h =
      let r = drop s.len (drop s.start l) in
      let j = i - s.start - s.len in
      let e : s.start + (length xs + j) ≡ i = omega arith in
      let q : s.start + (s.len + j) ≡ i = omega arith in
      subst (λ (k : ℕ). get_or (within s l xs) k d ≡ get_or l i d) e
      (from_start (length xs + j) d ∙ get_or-append-add xs r j d ∙ get_or-drop s.len (drop s.start l) j d
      ∙ get_or-drop s.start l (s.len + j) d ∙ ap (λ (k : ℕ). get_or l k d) q)

  -- every place outside it is as it was
  pub outside : (i : ℕ) (d : A) → (i < s.start) ⊎ (s.start + s.len ≤ i) → get_or (within s l xs) i d ≡ get_or l i d
  outside i d w = ⊎_elim (place_before i d) (place_behind i d) w

  -- what stands before it, and what stands behind it
  pub take_before : (i : ℕ) → i ≤ s.start → take i (within s l xs) ≡ take i l
  unfolding within
  take_before i h =
      take-append-le i (take s.start l) (xs ++ drop s.len (drop s.start l)) (omega (arith, front)) ∙ take-take i s.start l h

  pub drop_behind : (i : ℕ) → s.start + s.len ≤ i → drop i (within s l xs) ≡ drop i l
  unfolding within
  drop_behind i h =
      let r = drop s.len (drop s.start l) in
      let j = i - s.start - s.len in
      let e : length (take s.start l) + (length xs + j) ≡ i = omega (arith, front) in
      let q : s.start + (s.len + j) ≡ i = omega arith in
      subst (λ (k : ℕ). drop k (within s l xs) ≡ drop i l) e
      (drop-append-add (take s.start l) (xs ++ r) (length xs + j) ∙ drop-append-add xs r j ∙ drop-drop j s.len (drop s.start l)
      ∙ drop-drop (s.len + j) s.start l ∙ ap (λ (k : ℕ). drop k l) q)

-- nothing put into an empty share
within_none : {A : Type 0} (s : Share) (l xs : List A) → s.len ≡ 0 → length xs ≡ 0 → within s l xs ≡ l
unfolding within
within_none s l [] e n = ap (λ (k : ℕ). take s.start l ++ drop k (drop s.start l)) e ∙ take-append-drop s.start l
within_none s l (x ∷ xs) e n = absurd (omega (arith, n))

-- a share is the end of what stands up to its end
part_end : {A : Type 0} (s : Share) (l : List A) → s.start + s.len ≤ length l → part s l ≡ drop s.start (take (s.start + s.len) l)
unfolding part
part_end s l f =
    sym (ap (drop s.start) (take-add s.start s.len l)
    ∙ drop_at (take s.start l) (take s.len (drop s.start l)) s.start (length-take-le s.start l (omega arith)))

-- what is put into one share leaves another that does not overlap it as it was
pub part_apart : {A : Type 0} (m k : Share) (l xs : List A) → m.start + m.len ≤ length l → k.start + k.len ≤ length l → length xs ≡ m.len → Clear m k
    → part k (within m l xs) ≡ part k l
unfolding part
part_apart m k l xs f g n w =
    let b : k.start + k.len ≤ length (within m l xs) = omega (arith, g, length_within m l xs f n) in
    ⊎_elim (λ e. ap (part k) (within_none m l xs e (n ∙ e)))
    (⊎_elim (λ e. rw e)
    (⊎_elim (λ h. ap (take k.len) (drop_behind m l xs f n k.start h))
    (λ h. part_end k (within m l xs) b ∙ ap (drop k.start) (take_before m l xs f n (k.start + k.len) h) ∙ sym (part_end k l g))))
    w

-- ---- all six

-- six buffers are the same where each is, and six sizes
pub outs_same : {x y : Outs} → x.positions ≡ y.positions → x.normals ≡ y.normals → x.tags ≡ y.tags
    → x.triangles ≡ y.triangles → x.tubes ≡ y.tubes → x.boxes ≡ y.boxes → x ≡ y
outs_same {x} {y} p n g t r b =
    let e : outs x.positions x.normals x.tags x.triangles x.tubes x.boxes
    ≡ outs y.positions y.normals y.tags y.triangles y.tubes y.boxes = cc in
    e

pub sizes_same : {x y : Sizes} → x.positions ≡ y.positions → x.normals ≡ y.normals → x.tags ≡ y.tags
    → x.triangles ≡ y.triangles → x.tubes ≡ y.tubes → x.boxes ≡ y.boxes → x ≡ y
sizes_same {x} {y} p n g t r b =
    let e : sizes x.positions x.normals x.tags x.triangles x.tubes x.boxes
    ≡ sizes y.positions y.normals y.tags y.triangles y.tubes y.boxes = cc in
    e

-- six parts that are lent at once, and given back
abbrev pub lent_parts : Shares → Outs → Outs
lent_parts m o =
    outs
    (lent_part m.positions o.positions)
    (lent_part m.normals o.normals)
    (lent_part m.tags o.tags)
    (lent_part m.triangles o.triangles)
    (lent_part m.tubes o.tubes)
    (lent_part m.boxes o.boxes)

abbrev pub lent_backs : Shares → Outs → Outs → Outs
lent_backs m o x =
    outs
    (lent_back m.positions o.positions x.positions)
    (lent_back m.normals o.normals x.normals)
    (lent_back m.tags o.tags x.tags)
    (lent_back m.triangles o.triangles x.triangles)
    (lent_back m.tubes o.tubes x.tubes)
    (lent_back m.boxes o.boxes x.boxes)

-- what is lent is what the shares hold
pub parts_as : (m : Shares) (o : Outs) → lent_parts m o ≡ share_of m o
unfolding share_of
parts_as m o =
    outs_same
    (part_as m.positions o.positions)
    (part_as m.normals o.normals)
    (part_as m.tags o.tags)
    (part_as m.triangles o.triangles)
    (part_as m.tubes o.tubes)
    (part_as m.boxes o.boxes)

-- what is given back stands in their place
pub backs_as : (m : Shares) (o x : Outs) → lent_backs m o x ≡ with_share m o x
unfolding with_share
backs_as m o x =
    outs_same
    (back_as m.positions o.positions x.positions)
    (back_as m.normals o.normals x.normals)
    (back_as m.tags o.tags x.tags)
    (back_as m.triangles o.triangles x.triangles)
    (back_as m.tubes o.tubes x.tubes)
    (back_as m.boxes o.boxes x.boxes)

-- THE law of a call that is lent six shares, whatever it does with them: what it made stands in their place
pub lent_back_lem : (work : Outs → Outs) (m : Shares) (o x : Outs) → x ≡ work (lent_parts m o) → lent_backs m o x ≡ with_share m o (work (share_of m o))
lent_back_lem work m o x e = backs_as m o x ∙ ap (with_share m o) (e ∙ ap work (parts_as m o))

-- that shares fit depends on the buffers' lengths alone
pub fits_same : (m : Shares) (o p : Outs) → sizes_of o ≡ sizes_of p → Fits m o → Fits m p
fits_same m o p e F =
    record {
      positions = subst (λ (z : Sizes). m.positions.start + m.positions.len ≤ z.positions) e F.positions;
      normals = subst (λ (z : Sizes). m.normals.start + m.normals.len ≤ z.normals) e F.normals;
      tags = subst (λ (z : Sizes). m.tags.start + m.tags.len ≤ z.tags) e F.tags;
      triangles = subst (λ (z : Sizes). m.triangles.start + m.triangles.len ≤ z.triangles) e F.triangles;
      tubes = subst (λ (z : Sizes). m.tubes.start + m.tubes.len ≤ z.tubes) e F.tubes;
      boxes = subst (λ (z : Sizes). m.boxes.start + m.boxes.len ≤ z.boxes) e F.boxes;
    }

-- x is as long as the shares, buffer by buffer
record Long (m : Shares) (x : Outs) : Type 0 where
  positions : length x.positions ≡ m.positions.len
  normals : length x.normals ≡ m.normals.len
  tags : length x.tags ≡ m.tags.len
  triangles : length x.triangles ≡ m.triangles.len
  tubes : length x.tubes ≡ m.tubes.len
  boxes : length x.boxes ≡ m.boxes.len

long : (m : Shares) (x : Outs) → sizes_of x ≡ share_sizes m → Long m x
long m x e =
    record {
      positions = ap (λ (z : Sizes). z.positions) e;
      normals = ap (λ (z : Sizes). z.normals) e;
      tags = ap (λ (z : Sizes). z.tags) e;
      triangles = ap (λ (z : Sizes). z.triangles) e;
      tubes = ap (λ (z : Sizes). z.tubes) e;
      boxes = ap (λ (z : Sizes). z.boxes) e;
    }

-- what stands there, put there again
pub with_share_lem : (m : Shares) (o : Outs) → with_share m o (share_of m o) ≡ o
unfolding with_share share_of
with_share_lem m o =
    outs_same
    (within_part m.positions o.positions)
    (within_part m.normals o.normals)
    (within_part m.tags o.tags)
    (within_part m.triangles o.triangles)
    (within_part m.tubes o.tubes)
    (within_part m.boxes o.boxes)

-- shares that lie in the buffers have all their places
pub sizes_share : (m : Shares) (o : Outs) → Fits m o → sizes_of (share_of m o) ≡ share_sizes m
unfolding share_of
sizes_share m o F =
    sizes_same
    (length_part m.positions o.positions F.positions)
    (length_part m.normals o.normals F.normals)
    (length_part m.tags o.tags F.tags)
    (length_part m.triangles o.triangles F.triangles)
    (length_part m.tubes o.tubes F.tubes)
    (length_part m.boxes o.boxes F.boxes)

-- where the shares lie in the buffers o, and x is as long
module _ (m : Shares) (o x : Outs) (F : Fits m o) (e : sizes_of x ≡ share_sizes m) where
  -- the buffers stay as long as they were
  pub sizes_with : sizes_of (with_share m o x) ≡ sizes_of o
  unfolding with_share
  sizes_with =
      let n = long m x e in
      sizes_same
      (length_within m.positions o.positions x.positions F.positions n.positions)
      (length_within m.normals o.normals x.normals F.normals n.normals)
      (length_within m.tags o.tags x.tags F.tags n.tags)
      (length_within m.triangles o.triangles x.triangles F.triangles n.triangles)
      (length_within m.tubes o.tubes x.tubes F.tubes n.tubes)
      (length_within m.boxes o.boxes x.boxes F.boxes n.boxes)

  -- what was put there stands there
  pub share_with : share_of m (with_share m o x) ≡ x
  unfolding with_share share_of
  share_with =
      let n = long m x e in
      outs_same
      (part_within m.positions o.positions x.positions F.positions n.positions)
      (part_within m.normals o.normals x.normals F.normals n.normals)
      (part_within m.tags o.tags x.tags F.tags n.tags)
      (part_within m.triangles o.triangles x.triangles F.triangles n.triangles)
      (part_within m.tubes o.tubes x.tubes F.tubes n.tubes)
      (part_within m.boxes o.boxes x.boxes F.boxes n.boxes)

  -- put there twice, the last stays
  pub with_with : (y : Outs) → with_share m (with_share m o x) y ≡ with_share m o y
  unfolding with_share
  with_with y =
      let n = long m x e in
      outs_same
      (within_within m.positions o.positions x.positions F.positions n.positions y.positions)
      (within_within m.normals o.normals x.normals F.normals n.normals y.normals)
      (within_within m.tags o.tags x.tags F.tags n.tags y.tags)
      (within_within m.triangles o.triangles x.triangles F.triangles n.triangles y.triangles)
      (within_within m.tubes o.tubes x.tubes F.tubes n.tubes y.tubes)
      (within_within m.boxes o.boxes x.boxes F.boxes n.boxes y.boxes)

  -- and the other's shares are as they were
  pub share_apart : (k : Shares) → Fits k o → Apart m k → share_of k (with_share m o x) ≡ share_of k o
  unfolding with_share share_of
  share_apart k G W =
      let n = long m x e in
      outs_same
      (part_apart m.positions k.positions o.positions x.positions F.positions G.positions n.positions W.positions)
      (part_apart m.normals k.normals o.normals x.normals F.normals G.normals n.normals W.normals)
      (part_apart m.tags k.tags o.tags x.tags F.tags G.tags n.tags W.tags)
      (part_apart m.triangles k.triangles o.triangles x.triangles F.triangles G.triangles n.triangles W.triangles)
      (part_apart m.tubes k.tubes o.tubes x.tubes F.tubes G.tubes n.tubes W.tubes)
      (part_apart m.boxes k.boxes o.boxes x.boxes F.boxes G.boxes n.boxes W.boxes)

-- ---- what it means that shares pass 20

module _ (m k : Shares) where
  -- whose come first does not matter
  pub bad_sym : (n : Sizes) → bad_shares n m k ≡ bad_shares n k m
  unfolding bad_shares
  bad_sym n =
      rw (
        bad_swap n.positions m.positions k.positions,
        bad_swap n.normals m.normals k.normals,
        bad_swap n.tags m.tags k.tags,
        bad_swap n.triangles m.triangles k.triangles,
        bad_swap n.tubes m.tubes k.tubes,
        bad_swap n.boxes m.boxes k.boxes,
      )

  -- they lie in the buffers, and do not overlap
  pub good_fits : (o : Outs) → bad_shares (sizes_of o) m k ≡ false → Fits m o × Fits k o × Apart m k
  unfolding bad_shares
  good_fits o e =
      let e0 = or_no (bad_share (length o.positions) m.positions k.positions) _ e in
      let e1 = or_no (bad_share (length o.normals) m.normals k.normals) _ e0.1 in
      let e2 = or_no (bad_share (length o.tags) m.tags k.tags) _ e1.1 in
      let e3 = or_no (bad_share (length o.triangles) m.triangles k.triangles) _ e2.1 in
      let e4 = or_no (bad_share (length o.tubes) m.tubes k.tubes) _ e3.1 in
      let p = bad_not (length o.positions) m.positions k.positions e0.0 in
      let n = bad_not (length o.normals) m.normals k.normals e1.0 in
      let g = bad_not (length o.tags) m.tags k.tags e2.0 in
      let t = bad_not (length o.triangles) m.triangles k.triangles e3.0 in
      let r = bad_not (length o.tubes) m.tubes k.tubes e4.0 in
      let b = bad_not (length o.boxes) m.boxes k.boxes e4.1 in (
        record { positions = p.0; normals = n.0; tags = g.0; triangles = t.0; tubes = r.0; boxes = b.0 },
        record { positions = p.1; normals = n.1; tags = g.1; triangles = t.1; tubes = r.1; boxes = b.1 },
        record { positions = p.2; normals = n.2; tags = g.2; triangles = t.2; tubes = r.2; boxes = b.2 },
      )

  -- and where they do, they pass
  pub fits_good : (o : Outs) → Fits m o → Fits k o → Apart m k → bad_shares (sizes_of o) m k ≡ false
  unfolding bad_shares
  fits_good o F G W =
      rw (
        not_bad (length o.positions) m.positions k.positions F.positions G.positions W.positions,
        not_bad (length o.normals) m.normals k.normals F.normals G.normals W.normals,
        not_bad (length o.tags) m.tags k.tags F.tags G.tags W.tags,
        not_bad (length o.triangles) m.triangles k.triangles F.triangles G.triangles W.triangles,
        not_bad (length o.tubes) m.tubes k.tubes F.tubes G.tubes W.tubes,
        not_bad (length o.boxes) m.boxes k.boxes F.boxes G.boxes W.boxes,
      )
