-- What turns keep, and that each is one.
use Rattle.std.proofs.Common.{◌≡◌, ℕ, suc, List, [], ◌∷◌, ◌++◌, length, length-append, append-nil, sym, subst, arith}
use Rattle.ol_net.specs.Nets.{NamedNet, IsNet}
use Rattle.ol_context.specs.Paths.{HaveSamePaths}
use Rattle.ol_context.specs.Short.{IsOnce}
use Rattle.ol_invariance.proofs.Steps.{step_keeps}
use Rattle.ol_rules.specs.declared.journal.NodeName.{NodeName}
use Rattle.ol_rules.specs.declared.journal.NodeName.TheVariants.{Born}
use Rattle.ol_rules.specs.declared.journal.Entry.{Entry}
use Rattle.ol_rules.specs.Laws.{AreNamedBefore, IsFresh}
use Rattle.ol_rules.specs.Rewriting.{action_of}
use Rattle.ol_rules.specs.Runs.{IsEntryStep, IsRun}
use Rattle.ol_rules.proofs.OneRun.{name_same, name_test, fresh_names, named_after}
use Rattle.ol_rules.proofs.Relation.{net_kept}
use Rattle.ol_readback.specs.declared.answers.ReadNode.{ReadNode}
use Rattle.ol_rules.proofs.RunsOn.{run_on}
use Rattle.ol_demand.specs.Demands.{Asking, Turn, rewrites, one_more, finds, Turns, begins, and_then}
use Rattle.ol_demand.specs.Laws.{IsStart}

-- what a net is after so many entries
pub record IsKept (N : NamedNet NodeName) (journal : List Entry) (M : NamedNet NodeName) : Type 0 where
  pub run : IsRun N 0 journal M
  pub net : IsNet M
  pub named : AreNamedBefore M (length journal)
  pub once : IsOnce M.nodes
  pub paths : HaveSamePaths N M

step_kept : (N M P : NamedNet NodeName) (journal : List Entry) (e : Entry) → IsKept N journal M →
    IsEntryStep M (length journal) e P → IsOnce P.nodes → IsKept N (journal ++ e ∷ []) P
step_kept N M P journal e k s o = record {
  run = run_on N M P 0 (length journal) journal e k.run (omega arith) s;
  net = net_kept name_same name_test (λ place.
      Born (length journal) place) M s.f s.g s.step.active.k s.step.active.i s.step.active.l
      s.step.active.j e.rule k.net s.step.active.faces fresh s.step.active.fits P s.step.rewrites;
  named = subst (AreNamedBefore P) longer
      (named_after M P (length journal) s.f s.g s.step.active.k s.step.active.i s.step.active.l
      (action_of e.rule s.step.active.j) k.named s.step.rewrites);
  once = o;
  paths = λ p c q d. (λ r. (steps p c q d).0 ((k.paths p c q d).0 r), λ r. (k.paths p c q d).1 ((steps p c q d).1 r));
}
  where
    fresh : IsFresh M (λ place. Born (length journal) place)
    fresh = fresh_names M (length journal) k.named

    longer : suc (length journal) ≡ length (journal ++ e ∷ [])
    longer = omega (arith, length-append journal (e ∷ []))

    steps : HaveSamePaths M P
    steps = step_keeps name_same name_test (λ place. Born (length journal) place) M P s.f s.g e.rule k.net fresh s.step

nothing_kept : (N M : NamedNet NodeName) (journal : List Entry) → IsKept N journal M → IsKept N (journal ++ []) M
nothing_kept N M journal k = subst (λ (es : List Entry). IsKept N es M) (sym (append-nil journal)) k

turn_kept : (N M P : NamedNet NodeName) (heads : ℕ) (journal es : List Entry) (ns : List ReadNode)
    (a b : Asking) → IsKept N journal M → Turn heads M (length journal) a es ns P b → IsKept N (journal ++ es) P
turn_kept N M P heads journal es ns a b k (rewrites {e = e} m) = step_kept N M P journal e k m.step m.once
turn_kept N M P heads journal es ns a b k (one_more h l) = nothing_kept N M journal k
turn_kept N M P heads journal es ns a b k (finds h f) = nothing_kept N M journal k

pub turns_kept : {N : NamedNet NodeName} {heads : ℕ} {M : NamedNet NodeName} {turns : ℕ}
    {journal : List Entry} {places : List ReadNode} {a : Asking} → IsStart N →
    Turns N heads turns journal places M a → IsKept N journal M
turns_kept s begins = record {
  run = IsRun.end;
  net = s.net;
  named = s.named;
  once = s.once;
  paths = λ p c q d. (λ r. r, λ r. r);
}
turns_kept {N = N} {heads = heads} s
    (and_then {journal = journal} {es = es} {ns = ns} {M = M} {P = P} {a = a} {b = b} r
    t) = turn_kept N M P heads journal es ns a b (turns_kept s r) t
