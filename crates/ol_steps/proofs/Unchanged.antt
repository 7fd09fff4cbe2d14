-- How terms are shown changes no end; and without lets at the front folding changes nothing.
use Rattle.std.proofs.Common.{◌≡◌, ℕ, inl, inr, Bool, true, false, List, [], ◌∷◌, ◌++◌, codes, Option, Some, None}
use Rattle.std.proofs.Common.{refl, sym, ap, ◌∙◌, subst, arith}
use Rattle.std.specs.Prelude.{◌||◌, if◌then◌else◌}
use Rattle.std.specs.Fmt.{decimal}
use Rattle.ol_term.specs.declared.translations.Translation.TheVariants.{Two}
use Rattle.ol_term.specs.Trees.{Tree, term_size, depth}
use Rattle.ol_beta.specs.Beta.{IsWithin, IsPast}
use Rattle.ol_parse.specs.Grammar.{Named}
use Rattle.ol_parse.specs.Texts.{IsText}
use Rattle.ol_parse.proofs.Exact.{one_file}
use Rattle.ol_parse.proofs.Sizes.{one_dead_place}
use Rattle.ol_parse.proofs.Whole.{one_term}
use Rattle.ol_strategies.specs.Redexes.{next}
use Rattle.ol_strategies.specs.declared.orders.Order.{Order}
use Rattle.ol_subjects.specs.Subjects.{IsTerm, RefusesTerm, syntax_at, deep, large}
use Rattle.ol_subjects.specs.declared.answers.End.{End}
use Rattle.ol_steps.specs.Binders.{Binders, leaf, binders_of}
use Rattle.ol_steps.specs.Fronts.{BeginsWithLets}
use Rattle.ol_steps.specs.Folded.{folded_at, pruned}
use Rattle.ol_steps.specs.Lets.{values_of_lets}
use Rattle.ol_steps.proofs.WordNumbers.{none_worded}
use Rattle.ol_steps.specs.declared.stepping.Shown.{Shown}
use Rattle.ol_steps.specs.declared.showing.Unfolding.{Unfolding}
use Rattle.ol_steps.specs.Marks.{mark_line}
use Rattle.ol_steps.specs.Steps.{glossary, address_line, shown_term, term_line, shown_tree, shown_line}
use Rattle.ol_steps.specs.Words.{Glossary}
use Rattle.ol_steps.specs.Steps.{redex_lines, step_lines, lines_of_step, unfolds, unfold_line, begun, unfolding_after}
use Rattle.ol_steps.specs.Steps.{last_unfolding, next_binders, last_binders, walk_lines, lines_to, lines_with_redex}
use Rattle.ol_steps.specs.Steps.{past_line, Tells, refused, too_large, steps}
use Rattle.ol_steps.specs.StepLaws.{EachStepCounts, HasLastLine, ShowingChangesNoEnd, NoLetSameAnswer}
use Rattle.ol_steps.proofs.Walks.{counts}
use Rattle.ol_steps.proofs.LastLines.{OneLine, syntax_one, deep_one, large_one, past_one, only_line}
use Rattle.ol_steps.proofs.Outcomes.{Told, told, agree}
use Rattle.ol_steps.proofs.Returns.{walk_counts}
use Rattle.ol_strategies.specs.Reductions.{Leads}

pub each_counts : EachStepCounts
each_counts order lets t v terms walk =
    subst (λ (n : ℕ). Leads order n t v) (sym (counts order lets terms).made) (walk_counts walk)

-- ---- refusals

refusal_line : (bytes text : List ℕ) → RefusesTerm Two bytes text → OneLine text
refusal_line bytes text (syntax_at at r e) = subst OneLine (sym e) (syntax_one at)
refusal_line bytes text (deep d r e) = subst OneLine (sym e) deep_one
refusal_line bytes text (large t names file shallow past e) = subst OneLine (sym e) large_one

no_term : (bytes text : List ℕ) (t : Tree) (names : List (List ℕ)) → RefusesTerm Two bytes text →
    IsTerm Two bytes t names → ⊥
no_term bytes text t names (syntax_at at r e) i = r.0 i.file.named i.file.text
no_term bytes text t names (deep d r e) i =
    let same = ap depth (one_file bytes r.tree t r.names names r.file i.file).0 in
    let is = r.is in
    let above = r.above in
    let shallow = i.shallow in
    omega (arith, same, is, above, shallow)
no_term bytes text t names (large u others file shallow past e) i =
    let j = subst (λ (x : Tree). IsTerm Two bytes x names) (sym (one_file bytes u t others names file i.file).0) i in
    let small = j.small in
    omega (arith, past, small)

one_refusal : (bytes text more : List ℕ) → RefusesTerm Two bytes text → RefusesTerm Two bytes more → text ≡ more
one_refusal bytes text more (syntax_at m r e) (syntax_at n q f) =
    e ∙ ap (λ (k : ℕ). codes "syntax at byte " ++ decimal k ++ codes "\n") (one_dead_place bytes m n r.1 q.1) ∙ sym f
one_refusal bytes text more (syntax_at m r e) (deep d q f) = absurd (r.0 q.file.named q.file.text)
one_refusal bytes text more (syntax_at m r e) (large t names file shallow past f) = absurd (r.0 file.named file.text)
one_refusal bytes text more (deep d q f) (syntax_at m r e) = absurd (r.0 q.file.named q.file.text)
one_refusal bytes text more (deep d q f) (deep c r e) = f ∙ sym e
one_refusal bytes text more (deep d q f) (large t names file shallow past e) =
    let same = ap depth (one_file bytes q.tree t q.names names q.file file).0 in
    let is = q.is in
    let above = q.above in
    absurd (omega (arith, same, is, above, shallow))
one_refusal bytes text more (large t names file shallow past e) (syntax_at m r f) = absurd (r.0 file.named file.text)
one_refusal bytes text more (large t names file shallow past e) (deep d q f) =
    let same = ap depth (one_file bytes q.tree t q.names names q.file file).0 in
    let is = q.is in
    let above = q.above in
    absurd (omega (arith, same, is, above, shallow))
one_refusal bytes text more (large t names file shallow past e) (large u others other shallow' past' f) = e ∙ sym f

-- ---- the ends of two answers

abbrev EndAlike : List ℕ → List ℕ → End → End → Type 0
EndAlike text more e f = (e ≡ f) × ((line : List ℕ) × HasLastLine text line × HasLastLine more line)

alone : (text more : List ℕ) (e : End) → text ≡ more → OneLine text → EndAlike text more e e
alone text more e is one =
    (refl, (text, only_line text one, subst (λ (x : List ℕ). HasLastLine x text) is (only_line text one)))

large_same : (bytes : List ℕ) (t u : Tree) (names others : List (List ℕ)) (text more : List ℕ) → IsTerm Two bytes t names →
    IsTerm Two bytes u others → text ≡ past_line 0 (term_size t) (depth t) →
    more ≡ past_line 0 (term_size u) (depth u) → text ≡ more
large_same bytes t u names others text more i j e f =
    e ∙ ap (λ (x : Tree). past_line 0 (term_size x) (depth x)) (one_file bytes t u names others i.file j.file).0 ∙ sym f

not_both : (bytes : List ℕ) (t u : Tree) (names others : List (List ℕ)) → IsTerm Two bytes t names →
    IsTerm Two bytes u others → IsWithin t → IsPast u → ⊥
not_both bytes t u names others i j within past =
    let same = (one_file bytes t u names others i.file j.file).0 in go (subst IsWithin same within) past
  where
    go : IsWithin u → IsPast u → ⊥
    go w (inl h) = let k = w.0 in omega (arith, h, k)
    go w (inr h) = let k = w.1 in omega (arith, h, k)

-- two answers of one order, whose text is told by these lines
tells_alike : (how other : Shown) (g h : Glossary) (lets more most : ℕ) (t u : Tree) (s r : Binders) (text text' : List ℕ)
    (e f : End) → how.order ≡ other.order → t ≡ u → Tells how g lets most t s text e → Tells other h more most u r text' f →
    EndAlike text text' e f
tells_alike how other g h lets more most t u s r text text' e f order tree x y =
    let A' = lines_to other h more r in
    let B' = lines_with_redex other h more r in
    let second = subst (λ (o : Order). Told o most t A' B' text' f) (sym order)
    (subst (λ (v : Tree). Told other.order most v A' B' text' f) (sym tree) (told other h more most u r text' y)) in
    let a = agree how.order most t (lines_to how g lets s) (lines_with_redex how g lets s) A' B' text text' e f
    (told how g lets most t s text x) second in
    (a.end, (a.line, a.first, a.second))

pub showing_changes_no_end : ShowingChangesNoEnd
showing_changes_no_end bytes how other most text more e f order (refused r) (refused q) =
    alone text more e (one_refusal bytes text more r q) (refusal_line bytes text r)
showing_changes_no_end bytes how other most text more e f order (refused r) (too_large {t = t} {names = names} i past is) =
    absurd (no_term bytes text t names r i)
showing_changes_no_end bytes how other most text more e f order (refused r)
    (steps {t = t} {names = names} i within source lets tells) = absurd (no_term bytes text t names r i)
showing_changes_no_end bytes how other most text more e f order (too_large {t = t} {names = names} i past is) (refused r) =
    absurd (no_term bytes more t names r i)
showing_changes_no_end bytes how other most text more e f order (too_large {t = t} {names = names} i past is)
    (too_large {t = u} {names = others} j past' is') =
    alone text more e (large_same bytes t u names others text more i j is is')
    (subst OneLine (sym is) (past_one 0 (term_size t) (depth t)))
showing_changes_no_end bytes how other most text more e f order (too_large {t = t} {names = names} i past is)
    (steps {t = u} {names = others} j within source lets tells) =
    absurd (not_both bytes u t others names j i within past)
showing_changes_no_end bytes how other most text more e f order
    (steps {t = t} {names = names} i within source lets tells) (refused r) = absurd (no_term bytes more t names r i)
showing_changes_no_end bytes how other most text more e f order
    (steps {t = t} {names = names} i within source lets tells) (too_large {t = u} {names = others} j past is) =
    absurd (not_both bytes t u names others i j within past)
showing_changes_no_end bytes how other most text more e f order
    (steps {t = t} {names = names} {s = s} {n = n} i within source lets tells)
    (steps {t = u} {names = others} {s = r} {n = m} j within' source' lets' tells') =
    tells_alike how other (glossary names n t s) (glossary others m u r) n m most t u s r text more e f order
    (one_file bytes t u names others i.file j.file).0 tells tells'

-- ---- lines that don't look at binders' own names, and at whether terms are folded

term_same : (named : Bool) (names : List (List ℕ)) (x : Tree) (s r : Binders) → (named ≡ true → s ≡ r) →
    term_line named names x (pruned x s) ≡ term_line named names x (pruned x r)
term_same true names x s r h = ap (λ (q : Binders). term_line true names x (pruned x q)) (h refl)
term_same false names x s r h = refl

shown_same : (named : Bool) (names : List (List ℕ)) (x : Tree) (s r : Binders) → (named ≡ true → s ≡ r) →
    shown_term named names x (pruned x s) ≡ shown_term named names x (pruned x r)
shown_same true names x s r h = ap (λ (q : Binders). shown_term true names x (pruned x q)) (h refl)
shown_same false names x s r h = refl

module _ (how : Shown) (b c : Bool) (g : Glossary) (none : g.rows ≡ []) where
  abbrev first : Shown
  first = record how { folded = b }

  abbrev second : Shown
  second = record how { folded = c }

  redex_same : (x : Tree) (s r : Binders) (o : Option (List ℕ)) → (how.named ≡ true → s ≡ r) →
      redex_lines first g.names x (pruned x s) o ≡ redex_lines second g.names x (pruned x r) o
  redex_same x s r None h = refl
  redex_same x s r (Some at) h =
      ap (λ (u : Named). (if how.marked then mark_line u at else []) ++ address_line at) (shown_same how.named g.names x s r h)

  -- without rows it is the folded tree
  plain : (t : Tree) (s : Binders) →
      shown_tree how g t s ≡ folded_at g.first (values_of_lets g.rows) (next how.order t) t
  plain t s = none_worded g none (folded_at g.first (values_of_lets g.rows) (next how.order t) t) s

  alike : (t : Tree) (s r : Binders) → shown_tree how g t s ≡ shown_tree how g t r
  alike t s r = plain t s ∙ sym (plain t r)

  line_same : (t : Tree) (s r : Binders) → (how.named ≡ true → s ≡ r) → shown_line first g t s ≡ shown_line second g t r
  line_same t s r h =
      term_same how.named g.names (shown_tree how g t s) s r h
      ∙ ap (λ (x : Tree). term_line how.named g.names x (pruned x r)) (alike t s r)

  step_same : (t : Tree) (s r : Binders) → (how.named ≡ true → s ≡ r) → step_lines first g t s ≡ step_lines second g t r
  step_same t s r h =
      let x = shown_tree how g t s in
      let lines = redex_lines first g.names x (pruned x s) (next how.order t) in
      ap (λ (l : List ℕ). l ++ lines) (line_same t s r h)
      ∙ ap (λ (l : List ℕ). shown_line second g t r ++ l) (redex_same x s r (next how.order t) h
      ∙ ap (λ (y : Tree). redex_lines second g.names y (pruned y r) (next how.order t)) (alike t s r))

  made_same : (u : Unfolding) (t : Tree) (s r : Binders) → (how.named ≡ true → s ≡ r) →
      lines_of_step first g u t s ≡ lines_of_step second g u t r
  made_same u t s r h =
      ap (λ (l : List ℕ). if unfolds u.left (next how.order t) then [] else unfold_line u ++ l) (step_same t s r h)

  walk_same : (u : Unfolding) (s r : Binders) (terms : List Tree) → (how.named ≡ true → s ≡ r) →
      walk_lines first g u s terms ≡ walk_lines second g u r terms
  walk_same u s r [] h = refl
  walk_same u s r (t ∷ terms) h =
      let rest = walk_lines first g (unfolding_after how.order u t) (next_binders how.order t s) terms in
      ap (λ (l : List ℕ). l ++ rest) (made_same u t s r h)
      ∙ ap (λ (l : List ℕ). lines_of_step second g u t r ++ l)
      (walk_same (unfolding_after how.order u t) (next_binders how.order t s) (next_binders how.order t r) terms
      (λ is. ap (next_binders how.order t) (h is)))

  last_same : (s r : Binders) (terms : List Tree) → (how.named ≡ true → s ≡ r) → how.named ≡ true →
      last_binders how.order s terms ≡ last_binders how.order r terms
  last_same s r terms h is = ap (λ (q : Binders). last_binders how.order q terms) (h is)

  module _ (lets : ℕ) (s r : Binders) (h : how.named ≡ true → s ≡ r) where
    both_same : (terms : List Tree) (x y : List ℕ) → x ≡ y →
        walk_lines first g (begun lets) s terms ++ (unfold_line (last_unfolding how.order (begun lets) terms) ++ x)
        ≡ walk_lines second g (begun lets) r terms ++ (unfold_line (last_unfolding how.order (begun lets) terms) ++ y)
    both_same terms x y e =
        let line = unfold_line (last_unfolding how.order (begun lets) terms) in
        ap (λ (l : List ℕ). l ++ (line ++ x)) (walk_same (begun lets) s r terms h)
        ∙ ap (λ (l : List ℕ). walk_lines second g (begun lets) r terms ++ (line ++ l)) e

    pub to_same : (terms : List Tree) (v : Tree) → lines_to first g lets s terms v ≡ lines_to second g lets r terms v
    to_same terms v =
        let p = last_binders how.order s terms in
        let q = last_binders how.order r terms in
        both_same terms (shown_line first g v p) (shown_line second g v q) (line_same v p q (last_same s r terms h))

    pub with_same : (terms : List Tree) (v : Tree) →
        lines_with_redex first g lets s terms v ≡ lines_with_redex second g lets r terms v
    with_same terms v =
        let p = last_binders how.order s terms in
        let q = last_binders how.order r terms in
        both_same terms (step_lines first g v p) (step_lines second g v q) (step_same v p q (last_same s r terms h))

-- ---- no lets

or_true : (b : Bool) → (b || true) ≡ true
or_true true = refl
or_true false = refl

or_left : (b : Bool) → b ≡ true → (b || false) ≡ true
or_left true e = refl
or_left false e = absurd (cc)

one_source : (bytes : List ℕ) (s r : Binders) → ((t : Named) × IsText bytes t × (s ≡ binders_of t)) →
    ((t : Named) × IsText bytes t × (r ≡ binders_of t)) → s ≡ r
one_source bytes s r a b = a.2 ∙ ap binders_of (one_term bytes a.0 b.0 a.1 b.1) ∙ sym b.2

no_let : (bytes : List ℕ) (n : ℕ) (t : Named) → IsText bytes t → BeginsWithLets bytes 0 → BeginsWithLets bytes n → n ≡ 0
no_let bytes n t text none some = some t text ∙ sym (none t text)

-- two answers without lets, one of them with folding
none_alike : (how : Shown) (names : List (List ℕ)) (most : ℕ) (t : Tree) (s r : Binders) (text more : List ℕ) (e f : End) →
    (how.named ≡ true → s ≡ r) → Tells (record how { folded = true }) (glossary names 0 t s) 0 most t s text e →
    Tells (record how { folded = false }) (glossary names 0 t r) 0 most t r more f → (text ≡ more) × (e ≡ f)
none_alike how names most t s r text more e f h x y =
    let g = glossary names 0 t leaf in
    let a = agree how.order most t (lines_to (record how { folded = true }) g 0 s)
    (lines_with_redex (record how { folded = true }) g 0 s)
    (lines_to (record how { folded = false }) g 0 r) (lines_with_redex (record how { folded = false }) g 0 r) text more e f
    (told (record how { folded = true }) g 0 most t s text x)
    (told (record how { folded = false }) g 0 most t r more y) in
    (a.same (to_same how true false g refl 0 s r h) (with_same how true false g refl 0 s r h), a.end)

abbrev ToldBy : Shown → Bool → ℕ → List ℕ → End → List (List ℕ) → Tree → Binders → ℕ → Type 0
ToldBy how b most text e names t s n = Tells (record how { folded = b }) (glossary names n t s) n most t s text e

pub no_let_same_answer : NoLetSameAnswer
no_let_same_answer bytes how most text more e f none (refused r) (refused q) = (one_refusal bytes text more r q, refl)
no_let_same_answer bytes how most text more e f none (refused r) (too_large {t = t} {names = names} i past is) =
    absurd (no_term bytes text t names r i)
no_let_same_answer bytes how most text more e f none (refused r)
    (steps {t = t} {names = names} i within source lets tells) = absurd (no_term bytes text t names r i)
no_let_same_answer bytes how most text more e f none (too_large {t = t} {names = names} i past is) (refused r) =
    absurd (no_term bytes more t names r i)
no_let_same_answer bytes how most text more e f none (too_large {t = t} {names = names} i past is)
    (too_large {t = u} {names = others} j past' is') = (large_same bytes t u names others text more i j is is', refl)
no_let_same_answer bytes how most text more e f none (too_large {t = t} {names = names} i past is)
    (steps {t = u} {names = others} j within source lets tells) =
    absurd (not_both bytes u t others names j i within past)
no_let_same_answer bytes how most text more e f none
    (steps {t = t} {names = names} i within source lets tells) (refused r) = absurd (no_term bytes more t names r i)
no_let_same_answer bytes how most text more e f none
    (steps {t = t} {names = names} i within source lets tells) (too_large {t = u} {names = others} j past is) =
    absurd (not_both bytes t u names others i j within past)
no_let_same_answer bytes how most text more e f none
    (steps {t = t} {names = names} {s = s} {n = n} i within source lets tells)
    (steps {t = u} {names = others} {s = r} {n = m} j within' source' lets' tells') =
    let file = one_file bytes t u names others i.file j.file in
    let x = subst (ToldBy how true most text e names t s) (no_let bytes n i.file.named i.file.text none lets) tells in
    let y = subst (ToldBy how false most more f others u r) lets' tells' in
    let z = subst (λ (v : Tree). ToldBy how false most more f others v r 0) (sym file.0) y in
    let w = subst (λ (xs : List (List ℕ)). ToldBy how false most more f xs t r 0) (sym file.1) z in
    none_alike how names most t s r text more e f
    (λ is. one_source bytes s r (source (or_true how.named)) (source' (or_left how.named is))) x w
