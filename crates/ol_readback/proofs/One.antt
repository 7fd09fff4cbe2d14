-- One answer to each question.
use Rattle.std.proofs.Common.{◌≡◌, ℕ, suc, ◌<◌, ◌≤◌, ◌⊎◌, ◌↔◌, inl, inr, List, [], ◌∷◌, ◌++◌}
use Rattle.std.proofs.Common.{length, map, Some, None, refl, sym, ap, ◌∙◌, subst, arith}
use Rattle.ol_net.specs.Nets.{NamedNet, free, IsNet}
use Rattle.ol_context.specs.Contexts.{Level, empty, star, Context, levels}
use Rattle.ol_context.specs.Paths.{Path}
use Rattle.ol_context.specs.Shapes.{value}
use Rattle.ol_context.specs.Ways.{WalkStands}
use Rattle.ol_context.proofs.Exits.{path_one, no_stand}
use Rattle.ol_readback.specs.Frames.{Frame, frame_at, os, asked}
use Rattle.ol_readback.specs.Matching.{Fits, Matches, here, above, name, MatchesNothing}
use Rattle.ol_readback.specs.Heads.{Answer, head, no_head, budget, IsMatched, matched, unmatched, IsHead, IsHeadWithin}
use Rattle.ol_readback.specs.Heads.{spends, live, Fails, FailsBelow, LeavesWithin, answer_of}
use Rattle.ol_readback.specs.Heads as heads
use Rattle.ol_readback.specs.ReadTrees.{Subterm, framed, port_of, arguments, ReadsBack, end, past, spent, lost, found}
use Rattle.ol_readback.specs.Laws.{ExitIsOne, HeadIsOne, HeadWithinIsOne, TreeIsOne}
use Rattle.ol_readback.specs.declared.answers.HeadVar.{HeadVar}
use Rattle.ol_readback.specs.declared.answers.HeadVar.TheVariants as var
use Rattle.ol_readback.specs.declared.answers.Head.{Head}
use Rattle.ol_readback.specs.declared.answers.Head.TheVariants as code
use Rattle.ol_readback.specs.declared.answers.ReadNode.{ReadNode}
use Rattle.ol_readback.specs.declared.answers.ReadNode.TheVariants as node
use Rattle.ol_readback.proofs.Fits.{os_one, star_no_o, empty_no_o, level_first, level_second}

pub two_one : (ls : List Level) (a b a' b' : Level) (X : Context) →
    X ≡ levels (ls ++ (a ∷ (b ∷ []))) → X ≡ levels (ls ++ (a' ∷ (b' ∷ []))) → (a ≡ a') × (b ≡ b')
two_one ls a b a' b' X e e' =
    let q = sym e ∙ e' in (
      sym (level_first ls a b) ∙ ap (λ (c : Context). c (length ls)) q ∙ level_first ls a' b',
      sym (level_second ls a b) ∙ ap (λ (c : Context). c (suc (length ls))) q ∙ level_second ls a' b',
    )

pub fits_one : (ls : List Level) (l : ℕ) (X : Context) (j k j' k' : ℕ) (d d' : Level) →
    Fits ls l X j k d → Fits ls l X j' k' d' → (j ≡ j') × (k ≡ k') × (d ≡ d')
fits_one ls l X j k j' k' d d' f f' =
    let t = two_one ls (os j (star d)) (os k empty) (os j' (star d')) (os k' empty) X f.is f'.is in
    let s = os_one j j' (star d) (star d') (star_no_o d) (star_no_o d') t.0 in
    let e : star d ≡ star d' = s.1 in
    (s.0, (os_one k k' empty empty empty_no_o empty_no_o t.1).0, cc)

record Same (v v' : HeadVar) (k k' : ℕ) (ls ls' : List Level) : Type 0 where
  var : v ≡ v'
  args : k ≡ k'
  at : ls ≡ ls'

matches_one : {F : List Frame} {q : ℕ} {X : Context} {i l k k' : ℕ} {v v' : HeadVar}
    {ls ls' : List Level} → Matches F q X i l v k ls → Matches F q X i l v' k' ls' → Same v v' k k' ls ls'
matches_one {F = F} {X = X} {i = i} {l = l} (here {j = j} {k = k} {d = d} e m) (here {j = j'} {k = k'} {d = d'} e' m') =
    let t = fits_one (frame_at F i).levels l X j k j' k' d d' m m' in
    record {
      var = ap (λ j. var.Bound i (suc j)) t.0;
      args = t.1;
      at = ap (λ j. (frame_at F i).levels ++ os j (star d) ∷ []) t.0
          ∙ ap (λ d. (frame_at F i).levels ++ os j' (star d) ∷ []) t.2;
    }
matches_one (here {j = j} {k = k} {d = d} e m) (above n p r) = absurd (n j k d e m)
matches_one (here {j = j} {k = k} {d = d} e m) (name n p b z) = absurd (n j k d e m)
matches_one (above n p r) (here {j = j} {k = k} {d = d} e m) = absurd (n j k d e m)
matches_one (name n p b z) (here {j = j} {k = k} {d = d} e m) = absurd (n j k d e m)
matches_one {F = F} {q = q} {X = X} {k' = k'} {v' = v'} {ls' = ls'} (above {p = p} n e r) (above {p = p'} n' e' r') =
    let z : Some p' ≡ Some p = sym e' ∙ e in
    let y : p' ≡ p = cc in
    matches_one r (subst (λ p. Matches F q X p (frame_at F p).lams v' k' ls') y r')
matches_one (above {p = p} n e r) (name n' e' b z) = let y : Some p ≡ None = sym e ∙ e' in absurd (cc)
matches_one (name n' e' b z) (above {p = p} n e r) = let y : Some p ≡ None = sym e ∙ e' in absurd (cc)
matches_one {X = X} (name {k = k} {v = v} n e b z) (name {k = k'} {v = v'} n' e' b' z') =
    let t = two_one [] v (os k empty) v' (os k' empty) X z z' in
    record { var = refl; args = (os_one k k' empty empty empty_no_o empty_no_o t.1).0; at = ap (λ v. v ∷ []) t.0 }

pub exit_is_one : ExitIsOne
exit_is_one F i n q X a b (matched {v = v} {k = k} {ls = ls} m) (matched {v = v'} {k = k'} {ls = ls'} m') =
    let s = matches_one m m' in
    ap (λ v. head n v k ls) s.var ∙ ap (λ k. head n v' k ls) s.args ∙ ap (head n v' k') s.at
exit_is_one F i n q X a b (matched {v = v} {k = k} {ls = ls} m) (unmatched z) = absurd (z v k ls m)
exit_is_one F i n q X a b (unmatched z) (matched {v = v} {k = k} {ls = ls} m) = absurd (z v k ls m)
exit_is_one F i n q X a b (unmatched z) (unmatched z') = refl

abbrev Three : ℕ → ℕ → Type 0
Three m n = ((m < n) ⊎ (m ≡ n)) ⊎ (n < m)

three : (m n : ℕ) → Three m n
three m n = grind arith

matched_at : (F : List Frame) (i n n' q q' : ℕ) (X X' : Context) (a : Answer) → n ≡ n' → q ≡ q' →
    X ≡ X' → IsMatched F i n q X a → IsMatched F i n' q' X' a
matched_at F i n n' q q' X X' a e z y m = subst (λ X. IsMatched F i n' q' X a) y
    (subst (λ q. IsMatched F i n' q X a) z (subst (λ n. IsMatched F i n q X a) e m))

module _ {A : Type 0} (N : NamedNet A) (is_net : IsNet N) where
  -- heads
  pub head_one : (F : List Frame) (i : ℕ) (a b : Answer) → IsHead N F i a → IsHead N F i b → a ≡ b
  head_one F i a b (heads.leaves {n = n} {q = q} {X = X} h p m)
      (heads.leaves {n = n'} {q = q'} {X = X'} h' p' m') = go (three n n')
    where
      go : Three n n' → a ≡ b
      go (inl (inl c)) = absurd (h' n c q X p)
      go (inr c) = absurd (h n' c q' X' p')
      go (inl (inr e)) =
          let t = path_one N is_net (free (frame_at F i).port)
          (asked (frame_at F i).levels n') q q' X X'
          (subst (λ n. Path N (free (frame_at F i).port) (asked (frame_at F i).levels n) q X) e p) p' in
          exit_is_one F i n' q' X' a b (matched_at F i n n' q q' X X' a e t.0 t.1 m) m'
  head_one F i a b (heads.leaves {n = n} {q = q} {X = X} h p m) (heads.never z) = absurd (z n q X p)
  head_one F i a b (heads.never z) (heads.leaves {n = n} {q = q} {X = X} h p m) = absurd (z n q X p)
  head_one F i a b (heads.never z) (heads.never z') = refl

  module _ (edges : ℕ) where
    -- a walk that leaves within its crossings doesn't stand after them
    not_both : (p : ℕ) (c : Context) (q : ℕ) (X : Context) → LeavesWithin N p c edges q X →
        WalkStands N (free p) c edges → ⊥
    not_both p c q X w s = no_stand N is_net (free p) c q X w.1.path edges
        (let a = w.1.long in let b = w.1.within in omega arith) s

    pub within_one : (F : List Frame) (i : ℕ) (a b : Answer) → IsHeadWithin N F i edges a →
        IsHeadWithin N F i edges b → a ≡ b
    within_one F i a b (heads.leaves {n = n} {q = q} {X = X} c h w m)
        (heads.leaves {n = n'} {q = q'} {X = X'} c' h' w' m') = go (three n n')
      where
        go : Three n n' → a ≡ b
        go (inl (inl d)) = absurd ((h' n d).stays q X w)
        go (inr d) = absurd ((h n' d).stays q' X' w')
        go (inl (inr e)) =
            let t = path_one N is_net (free (frame_at F i).port)
            (asked (frame_at F i).levels n') q q' X X'
            (subst (λ n. Path N (free (frame_at F i).port)
            (asked (frame_at F i).levels n) q X) e w.1.path) w'.1.path in
            exit_is_one F i n' q' X' a b (matched_at F i n n' q q' X X' a e t.0 t.1 m) m'
    within_one F i a b (heads.leaves {n = n} {q = q} {X = X} c h w m) (spends {n = n'} c' h' s) = go (three n n')
      where
        go : Three n n' → a ≡ budget
        go (inl (inl d)) = absurd ((h' n d).stays q X w)
        go (inr d) = absurd ((h n' d).breaks_off s)
        go (inl (inr e)) = absurd (not_both (frame_at F i).port (asked (frame_at F i).levels n') q X
            (subst (λ n. LeavesWithin N (frame_at F i).port (asked (frame_at F i).levels n) edges q X) e w) s)
    within_one F i a b (spends {n = n'} c' h' s) (heads.leaves {n = n} {q = q} {X = X} c h w m) = go (three n n')
      where
        go : Three n n' → budget ≡ b
        go (inl (inl d)) = absurd ((h' n d).stays q X w)
        go (inr d) = absurd ((h n' d).breaks_off s)
        go (inl (inr e)) = absurd (not_both (frame_at F i).port (asked (frame_at F i).levels n') q X
            (subst (λ n. LeavesWithin N (frame_at F i).port (asked (frame_at F i).levels n) edges q X) e w) s)
    within_one F i a b (heads.leaves {n = n} {q = q} {X = X} c h w m) (heads.never z) = absurd
        ((z n (omega arith)).stays q X w)
    within_one F i a b (heads.never z) (heads.leaves {n = n} {q = q} {X = X} c h w m) = absurd
        ((z n (omega arith)).stays q X w)
    within_one F i a b (spends c h s) (spends c' h' s') = refl
    within_one F i a b (spends {n = n} c h s) (heads.never z) = absurd ((z n (omega arith)).breaks_off s)
    within_one F i a b (heads.never z) (spends {n = n} c h s) = absurd ((z n (omega arith)).breaks_off s)
    within_one F i a b (heads.never z) (heads.never z') = refl

    -- trees
    module _ (Q : ℕ) where
      pub reads_one : {F : List Frame} {ss : List Subterm} {ns ms : List ReadNode} →
          ReadsBack N Q edges F ss ns → ReadsBack N Q edges F ss ms → ns ≡ ms
      reads_one end end = refl
      reads_one end (past b) = refl
      reads_one (past b) end = refl
      reads_one (past b) (past c) = refl
      reads_one (past b) (spent c x r) = absurd (omega arith)
      reads_one (past b) (lost c x r) = absurd (omega arith)
      reads_one (past b) (found c x r) = absurd (omega arith)
      reads_one (spent b x r) (past c) = absurd (omega arith)
      reads_one (lost b x r) (past c) = absurd (omega arith)
      reads_one (found b x r) (past c) = absurd (omega arith)
      reads_one (spent b x r) (spent c y t) = ap (λ ns. node.Cut ∷ ns) (reads_one r t)
      reads_one (lost b x r) (lost c y t) = ap (λ ns. node.NoHead ∷ ns) (reads_one r t)
      reads_one {F = F} (spent {s = s} b x r) (lost c y t) = let z = within_one
          (F ++ framed s 0 ∷ []) (length F) budget no_head x y in absurd (cc)
      reads_one {F = F} (lost {s = s} b x r) (spent c y t) = let z = within_one
          (F ++ framed s 0 ∷ []) (length F) no_head budget x y in absurd (cc)
      reads_one {F = F} (spent {s = s} b x r)
          (found {n = n} {k = k} {v = v} {ls = ls} c y t) = let z = within_one
          (F ++ framed s 0 ∷ []) (length F) budget (head n v k ls) x y in absurd (cc)
      reads_one {F = F} (found {n = n} {k = k} {v = v} {ls = ls} c y t)
          (spent {s = s} b x r) = let z = within_one (F ++ framed s 0 ∷ []) (length F) budget
          (head n v k ls) x y in absurd (cc)
      reads_one {F = F} (lost {s = s} b x r)
          (found {n = n} {k = k} {v = v} {ls = ls} c y t) = let z = within_one
          (F ++ framed s 0 ∷ []) (length F) no_head (head n v k ls) x y in absurd (cc)
      reads_one {F = F} (found {n = n} {k = k} {v = v} {ls = ls} c y t)
          (lost {s = s} b x r) = let z = within_one (F ++ framed s 0 ∷ []) (length F) no_head
          (head n v k ls) x y in absurd (cc)
      reads_one {F = F} (found {s = s} {ss = ss} {ns = ns} {n = n} {k = k} {v = v} {ls = ls} b x r)
          (found {ns = ms} {n = n'} {k = k'} {v = v'} {ls = ls'} c y t) =
          let z = within_one (F ++ framed s 0 ∷ []) (length F) (head n v k ls) (head n' v' k' ls') x y in
          let en : n' ≡ n = cc in
          let ev : v' ≡ v = cc in
          let ek : k' ≡ k = cc in
          let el : ls' ≡ ls = cc in
          let t1 = subst (λ n. ReadsBack N Q edges (F ++ framed s n ∷ [])
          (arguments (length F) (port_of (F ++ framed s n ∷ []) v') ls' 0 k' ++ ss) ms) en t in
          let t2 = subst (λ v. ReadsBack N Q edges (F ++ framed s n ∷ [])
          (arguments (length F) (port_of (F ++ framed s n ∷ []) v) ls' 0 k' ++ ss) ms) ev t1 in
          let t3 = subst (λ k. ReadsBack N Q edges (F ++ framed s n ∷ [])
          (arguments (length F) (port_of (F ++ framed s n ∷ []) v) ls' 0 k ++ ss) ms) ek t2 in
          let t4 = subst (λ ls. ReadsBack N Q edges (F ++ framed s n ∷ [])
          (arguments (length F) (port_of (F ++ framed s n ∷ []) v) ls 0 k ++ ss) ms) el t3 in
          ap (λ ns. node.Head n v k ∷ ns) (reads_one r t4) ∙ ap (λ n. node.Head n v k ∷ ms) (sym en)
          ∙ ap (λ v. node.Head n' v k ∷ ms) (sym ev) ∙ ap (λ k. node.Head n' v' k ∷ ms) (sym ek)

module _ {A : Type 0} where
  pub head_is_one : HeadIsOne A
  head_is_one N is_net F i a b h k = head_one N is_net F i a b h k

  pub head_within_is_one : HeadWithinIsOne A
  head_within_is_one N is_net F i edges a b h k = within_one N is_net edges F i a b h k

  pub tree_is_one : TreeIsOne A
  tree_is_one N is_net heads edges ns ms r t = reads_one N is_net edges heads r t

-- what the code answers
pub is_no_head : (vs : List Level) (h : Head) → answer_of vs h ≡ no_head → h ≡ code.NoHead
is_no_head vs (code.Is l v k m) e = let z : head l v k (map (value vs) m) ≡ no_head = e in absurd (cc)
is_no_head vs code.NoHead e = refl
is_no_head vs code.Budget e = let z : budget ≡ no_head = e in absurd (cc)

-- exactly where leaving has no head
nothing : {F : List Frame} {i n q : ℕ} {X : Context} → IsMatched F i n q X no_head → MatchesNothing F q X i n
nothing (unmatched z) = z

never_budget : {F : List Frame} {i n q : ℕ} {X : Context} → IsMatched F i n q X budget → ⊥
never_budget {F = F} {i = i} {n = n} {q = q} {X = X} m = no_such m refl
  where
    no_such : {a : Answer} → IsMatched F i n q X a → a ≡ budget → ⊥
    no_such (matched m) e = absurd (cc)
    no_such (unmatched z) e = absurd (cc)

pub left_no_head : (F : List Frame) (i n q : ℕ) (X : Context) (vs : List Level) (h : Head) →
    IsMatched F i n q X (answer_of vs h) → (h ≡ code.NoHead) ↔ MatchesNothing F q X i n
left_no_head F i n q X vs h m = (
  λ e. nothing (subst (λ (h : Head). IsMatched F i n q X (answer_of vs h)) e m),
  λ z. is_no_head vs h (exit_is_one F i n q X (answer_of vs h) no_head m (unmatched z)),
)

pub left_no_budget : (F : List Frame) (i n q : ℕ) (X : Context) (vs : List Level) (h : Head) →
    IsMatched F i n q X (answer_of vs h) → h ≡ code.Budget → ⊥
left_no_budget F i n q X vs h m e = never_budget (subst (λ (h : Head). IsMatched F i n q X (answer_of vs h)) e m)

-- each answer comes exactly where it is the head
pub answer_exactly : {A : Type 0} (N : NamedNet A) → IsNet N →
    (F : List Frame) (i edges : ℕ) (a : Answer) → IsHeadWithin N F i edges a → (b : Answer) →
    (a ≡ b) ↔ IsHeadWithin N F i edges b
answer_exactly N is_net F i edges a h b = (
  λ e. subst (IsHeadWithin N F i edges) e h,
  λ k. within_one N is_net edges F i a b h k,
)

-- where the budget is met, a try makes all its crossings
pub meets : {A : Type 0} {N : NamedNet A} {F : List Frame} {i edges : ℕ} {a : Answer} →
    IsHeadWithin N F i edges a → a ≡ budget →
    (n : ℕ) × (n ≤ live N) × FailsBelow N (frame_at F i) edges n
    × WalkStands N (free (frame_at F i).port) (asked (frame_at F i).levels n) edges
meets (heads.leaves {n = n} {q = q} {X = X} b h w m) e = absurd (never_budget (subst (IsMatched _ _ n q X) e m))
meets (spends {n = n} b h s) e = (n, b, h, s)
meets (heads.never z) e = absurd (cc)
