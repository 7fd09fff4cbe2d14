-- If a run leads to a ring of principal ports, its first net has a loop.
-- Used in NoRing.
use Rattle.std.proofs.Common.{◌≡◌, ℕ, suc, Some, ◌<◌, ◌≤◌, List, [], ◌∷◌, ◌++◌, refl, ◌∙◌, subst, arith}
use Rattle.ol_context.specs.Contexts.{Context, up}
use Rattle.ol_invariance.proofs.Table.{rule_suits}
use Rattle.ol_law_optimality.specs.Routes.{Crossing, rise}
use Rattle.ol_law_optimality.proofs.Runs.{kept_net, kept_names}
use Rattle.ol_law_optimality.proofs.Table.{no_lam, arities}
use Rattle.ol_law_completeness.specs.Rings.{Descends, first, next}
use Rattle.ol_net.specs.Nets.{NamedNet, NamedPort, slot, HasNode, Linked, IsNet}
use Rattle.ol_net.specs.Parts.{arity}
use Rattle.ol_net.specs.declared.parts.Kind.{Kind}
use Rattle.ol_rules.proofs.FreshPairs.{linked_sym}
use Rattle.ol_rules.proofs.OneRun.{name_same, name_test, fresh_names}
use Rattle.ol_rules.specs.Laws.{AreNamedBefore}
use Rattle.ol_rules.specs.Rewriting.{action_of, meeting, is_meeting, index_after}
use Rattle.ol_rules.proofs.Actions.{meets}
use Rattle.ol_law_completeness.proofs.Marks.{meeting_marks}
use Rattle.ol_net.specs.Rules.{rule_of}
use Rattle.ol_net.specs.declared.parts.Rule.{Rule}
use Rattle.ol_rules.specs.Runs.{IsRun, IsEntryStep, end, then}
use Rattle.ol_rules.specs.declared.journal.Entry.{Entry}
use Rattle.ol_rules.specs.declared.journal.NodeName.{NodeName}
use Rattle.ol_rules.specs.declared.journal.NodeName.TheVariants.{Born}
use Rattle.ol_law_completeness.proofs.Lines.{Line, stop, rises, Leads, climbs, climbs_both, append, leads_on, marks, downs, ups_both, Loop, loop_before}

equal_marks : (k : Kind) (i : ℕ) (l : Kind) (j : ℕ) (r : Rule) → rule_of k i l j ≡ Some r → action_of r j ≡ meeting →
    marks k ≡ marks l
equal_marks k i l j r e m = meeting_marks k i l j r e (meets (is_meeting r) (index_after r j) m)

loop_of_entry : {N K : NamedNet NodeName} {t : ℕ} {e : Entry} → IsNet N → AreNamedBefore N t → IsEntryStep N t e K → Loop K → Loop N
loop_of_entry {N} {K} {t} {e} n b h L =
    let x = h.step.active in
    loop_before N h.f h.g x.k x.i x.l x.j (action_of e.rule x.j) (λ place. Born t place) name_same name_test n x.faces
    (fresh_names N t b) K h.step.rewrites (arities x.k x.i x.l x.j e.rule x.fits)
    (equal_marks x.k x.i x.l x.j e.rule x.fits) (no_lam x.k x.i x.l x.j e.rule x.fits)
    (rule_suits x.k x.i x.l x.j e.rule x.fits) L

pub loop_of_run : {N M : NamedNet NodeName} {t : ℕ} {es : List Entry} → IsNet N → AreNamedBefore N t → IsRun N t es M → Loop M → Loop N
loop_of_run n b end L = L
loop_of_run n b (then h r) L = loop_of_entry n b h (loop_of_run (kept_net n b h) (kept_names b h) r L)

-- ---- a ring

module _ {A : Type 0} (N : NamedNet A) where
  -- a walk that only goes up
  record Up (p q : NamedPort A) : Type 0 where
    row : List (Crossing A)
    line : Line N p row q
    some : 1 ≤ climbs row
    change : Context → Context
    leads : (c : Context) → Leads line c (change c)
    up : downs line ≡ 0

  one_up : {p : NamedPort A} {x : A} {s : ℕ} (k : Kind) (i : ℕ) → Linked N p (slot x (suc s)) → HasNode N x k i → s < arity k →
      Up p (slot x 0)
  one_up {x = x} {s = s} k i l h b = record {
    row = rise x s ∷ [];
    line = rises k i l h b stop;
    some = omega arith;
    change = λ c. up k i s c;
    leads = λ c. refl;
    up = refl;
  }

  both : {p q r : NamedPort A} → Up p q → Up q r → Up p r
  both u v = record {
    row = u.row ++ v.row;
    line = append u.line v.line;
    some = let e = climbs_both u.row v.row in let f = u.some in omega (arith, e, f);
    change = λ c. v.change (u.change c);
    leads = λ c. leads_on u.line v.line c (u.change c) (v.change (u.change c)) (u.leads c) (v.leads (u.change c));
    up = let e = (ups_both u.line v.line).1 in let f = u.up in let g = v.up in omega (arith, e, f, g);
  }

  -- where one descends from p, the walk goes up the other way
  data Top (p q : NamedPort A) : Type 0 where
    top : {y : A} → Linked N p (slot y 0) → {x : A} {s : ℕ} (k : Kind) (i : ℕ) → q ≡ slot x (suc s) → HasNode N x k i → s < arity k →
        ((m : NamedPort A) → Linked N m (slot x (suc s)) → Up m (slot y 0)) → Top p q

  top_next : {p q : NamedPort A} {x : A} {s : ℕ} (k : Kind) (i : ℕ) → Linked N q (slot x 0) → HasNode N x k i → s < arity k →
      Top p q → Top p (slot x (suc s))
  top_next {q = q} {x = x} {s = s} k i l h b (top {y = y} l' {x = x'} {s = s'} k' i' e h' b' u) =
      top l' k i refl h b (λ m z. both (one_up k i z h b)
      (u (slot x 0) (subst (λ q. Linked N (slot x 0) q) e (linked_sym N q (slot x 0) l))))

  tops : {p q : NamedPort A} → Descends N p q → Top p q
  tops (first {x = x} {s = s} k i l h b) = top l k i refl h b (λ m z. one_up k i z h b)
  tops (next k i d l h b) = top_next k i l h b (tops d)

  ring_top : {p q : NamedPort A} → Top p q → p ≡ q → Loop N
  ring_top {p} (top {y = y} l {x = x} {s = s} k i e h b u) e' =
      let r = u (slot y 0) (subst (λ p. Linked N (slot y 0) p) (e' ∙ e) (linked_sym N p (slot y 0) l)) in
      record {
        port = slot y 0;
        row = r.row;
        line = r.line;
        some = r.some;
        at = λ c. c;
        change = r.change;
        leads = r.leads;
        balance = let e = r.up in omega (arith, e);
      }

  pub ring_loops : (p : NamedPort A) → Descends N p p → Loop N
  ring_loops p d = ring_top (tops d) refl

pub rings_are_loops : (N M : NamedNet NodeName) (ticket : ℕ) (journal : List Entry) → IsNet N → AreNamedBefore N ticket →
    IsRun N ticket journal M → (p : NamedPort NodeName) → Descends M p p → Loop N
rings_are_loops N M ticket journal n b run p d = loop_of_run n b run (ring_loops M p d)
