-- What a walk answers is all that it can answer.
use Rattle.std.proofs.Common.{◌≡◌, ℕ, suc, ◌<◌, ◌≤◌, ◌⊎◌, List, inl, inr, refl, sym, ap, ◌∙◌, subst, arith}
use Rattle.ol_net.specs.Nets.{NamedNet, NamedPort, free, Linked, IsNet}
use Rattle.ol_context.specs.Contexts.{Level, Context}
use Rattle.ol_context.specs.Paths.{Path, crossings}
use Rattle.ol_context.specs.Shapes.{context_of}
use Rattle.ol_context.specs.Ways.{Way, Exits, WalkStands, Stops}
use Rattle.ol_context.specs.WalkAnswers.{ExitsExactly, StopsExactly, StandsExactly}
use Rattle.ol_context.specs.declared.answers.Walk.TheVariants.{Exit, Undefined, Budget}
use Rattle.ol_context.specs.Laws.{WalkIsOne}
use Rattle.ol_context.proofs.Ways.{path_way, way_passes, way_one, ended, stopped}

abbrev pub Three : ℕ → ℕ → Type 0
Three m n = ((m < n) ⊎ (m ≡ n)) ⊎ (n < m)

pub three : (m n : ℕ) → Three m n
three m n = grind arith

module _ {A : Type 0} (N : NamedNet A) (is_net : IsNet N) (p : NamedPort A) (c : Context) where
  -- two paths are one
  pub path_one : (q q' : ℕ) (d d' : Context) (r : Path N p c q d) (s : Path N p c q' d') →
      (q ≡ q') × (d ≡ d') × (crossings r ≡ crossings s)
  path_one q q' d d' r s = go (three (crossings r) (crossings s))
    where
      go : Three (crossings r) (crossings s) → (q ≡ q') × (d ≡ d') × (crossings r ≡ crossings s)
      go (inl (inl b)) = let v = path_way N r in let w = path_way N s in
          absurd (ended N is_net q v.1 v.2 ((way_passes N (crossings r) w.1 b).stands))
      go (inr b) = let v = path_way N r in let w = path_way N s in
          absurd (ended N is_net q' w.1 w.2 ((way_passes N (crossings s) v.1 b).stands))
      go (inl (inr e)) =
          let v = path_way N r in
          let w = path_way N s in
          let z = way_one N is_net (subst (λ n. Way N p c n v.0 d) e v.1) w.1 in
          let l : free q ≡ free q' = is_net.one_link w.0 (free q) (free q')
          (subst (λ u. Linked N u (free q)) z.0 v.2) w.2 in
          (cc, z.1, e)

  -- a walk that leaves within n crossings doesn't stand after n
  pub no_stand : (q : ℕ) (d : Context) (r : Path N p c q d) (n : ℕ) → crossings r ≤ n → WalkStands N p c n → ⊥
  no_stand q d r n b s = go (three (crossings r) n)
    where
      go : Three (crossings r) n → ⊥
      go (inl (inl a)) = let v = path_way N r in ended N is_net q v.1 v.2 ((way_passes N (crossings r) s.way a).stands)
      go (inl (inr e)) = let v = path_way N r in ended N is_net q v.1 v.2 (subst (WalkStands N p c) (sym e) s)
      go (inr a) = absurd (omega arith)

  -- a walk that leaves doesn't stop
  pub no_stop : (q : ℕ) (d : Context) (r : Path N p c q d) (edges n : ℕ) → Stops N p c edges n → ⊥
  no_stop q d r edges n s = go (three (crossings r) s.made)
    where
      go : Three (crossings r) s.made → ⊥
      go (inl (inl a)) = no_stand q d r s.made (omega arith) s.stands
      go (inl (inr e)) = no_stand q d r s.made (omega arith) s.stands
      go (inr a) = let v = path_way N r in stopped N is_net s (way_passes N s.made v.1 a)

  -- a walk stops once
  stops_before : (edges m n : ℕ) (s : Stops N p c edges m) (t : Stops N p c edges n) → s.made < t.made → ⊥
  stops_before edges m n s t b = stopped N is_net s (way_passes N s.made t.stands.way b)

  pub stop_one : (edges m n : ℕ) → Stops N p c edges m → Stops N p c edges n → m ≡ n
  stop_one edges m n s t = go (three s.made t.made)
    where
      go : Three s.made t.made → m ≡ n
      go (inl (inl b)) = absurd (stops_before edges m n s t b)
      go (inr b) = absurd (stops_before edges n m t s b)
      go (inl (inr e)) = s.tried ∙ ap suc e ∙ sym t.tried

  -- a walk that stops doesn't stand after all crossings
  pub no_stand_past : (edges n : ℕ) → Stops N p c edges n → WalkStands N p c edges → ⊥
  no_stand_past edges n s t = let e = s.tried in let w = s.within in
      stopped N is_net s (way_passes N s.made t.way (omega arith))

module _ {A : Type 0} where
  pub one_walk : WalkIsOne A
  one_walk N is_net p c q q' d d' r s = path_one N is_net p c q q' d d' r s

-- the answers of a walk, each from its cause
module _ (N : NamedNet ℕ) (is_net : IsNet N) (p : ℕ) (c : Context) (edges : ℕ) (vs : List Level) where
  module _ (q : ℕ) (ms : List ℕ) (n : ℕ) (x : Exits N (free p) c edges q (context_of vs ms) n) where
    same_exit : (q' : ℕ) (d : Context) (n' : ℕ) → (q ≡ q') × (context_of vs ms ≡ d) × (n ≡ n') →
        Exits N (free p) c edges q' d n'
    same_exit q' d n' e =
        subst (λ q. Exits N (free p) c edges q d n') e.0
        (subst (λ d. Exits N (free p) c edges q d n') e.1
        (subst (Exits N (free p) c edges q (context_of vs ms)) e.2 x))

    one_exit : (q' : ℕ) (d : Context) (n' : ℕ) → Exits N (free p) c edges q' d n' →
        (q ≡ q') × (context_of vs ms ≡ d) × (n ≡ n')
    one_exit q' d n' y =
        let o = path_one N is_net (free p) c q q' (context_of vs ms) d x.path y.path in
        (o.0, o.1, sym x.long ∙ o.2 ∙ y.long)

    pub exit_exits : ExitsExactly N p c edges vs (Exit q ms n)
    exit_exits q' d n' = (same_exit q' d n', one_exit q' d n')

    pub exit_stops : StopsExactly N p c edges (Exit q ms n)
    exit_stops n' = (λ e. absurd (cc), λ s. absurd (no_stop N is_net (free p) c q (context_of vs ms) x.path edges n' s))

    pub exit_stands : StandsExactly N p c edges (Exit q ms n)
    exit_stands = (
      λ e. absurd (cc),
      λ s.
          absurd (no_stand N is_net (free p) c q (context_of vs ms) x.path edges (within x.long x.within) s),
    )
      where
        within : crossings x.path ≡ n → n ≤ edges → crossings x.path ≤ edges
        within e b = omega arith

  module _ (n : ℕ) (x : Stops N (free p) c edges n) where
    pub undefined_exits : ExitsExactly N p c edges vs (Undefined n)
    undefined_exits q' d n' = (λ h. absurd h, λ y. absurd (no_stop N is_net (free p) c q' d y.path edges n x))

    pub undefined_stops : StopsExactly N p c edges (Undefined n)
    undefined_stops n' = (
      λ e. subst (Stops N (free p) c edges) (number n' e) x,
      λ s. ap Undefined (stop_one N is_net (free p) c edges n n' x s),
    )
      where
        number : (n' : ℕ) → Undefined n ≡ Undefined n' → n ≡ n'
        number n' e = cc

    pub undefined_stands : StandsExactly N p c edges (Undefined n)
    undefined_stands = (λ e. absurd (cc), λ s. absurd (no_stand_past N is_net (free p) c edges n x s))

  module _ (x : WalkStands N (free p) c edges) where
    pub budget_exits : ExitsExactly N p c edges vs Budget
    budget_exits q' d n' = (
      λ h. absurd h,
      λ y. absurd (no_stand N is_net (free p) c q' d y.path edges (within y.path y.long y.within) x),
    )
      where
        within : {q' : ℕ} {d : Context} {n' : ℕ} (r : Path N (free p) c q' d) → crossings r ≡ n' →
            n' ≤ edges → crossings r ≤ edges
        within r e b = omega arith

    pub budget_stops : StopsExactly N p c edges Budget
    budget_stops n' = (λ e. absurd (cc), λ s. absurd (no_stand_past N is_net (free p) c edges n' s x))

    pub budget_stands : StandsExactly N p c edges Budget
    budget_stands = (λ e. x, λ s. refl)
