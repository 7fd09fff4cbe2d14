-- The net that a demand run leaves is enough for the places that it was asked for: what it read
-- while it rewrote can be read again from its last net, by walks that meet no active pair.
use Rattle.std.proofs.Common.{◌≡◌, ℕ, ◌<◌, ◌≤◌, ◌⊎◌, inl, inr, List, [], ◌∷◌, ◌++◌, length, refl, sym, subst, arith}
use Rattle.ol_net.specs.Nets.{NamedNet}
use Rattle.ol_rules.specs.declared.journal.NodeName.{NodeName}
use Rattle.ol_rules.specs.declared.journal.Entry.{Entry}
use Rattle.ol_readback.specs.Heads.{Answer}
use Rattle.ol_readback.specs.ReadTrees.{Subterm, whole_term}
use Rattle.ol_readback.specs.declared.answers.ReadNode.{ReadNode}
use Rattle.ol_demand.specs.Demands.{Asking, next, Turn, rewrites, one_more, finds, Turns, begins, and_then}
use Rattle.ol_demand.specs.Laws.{IsStart}
use Rattle.ol_demand.proofs.Turning.{IsKept, turns_kept}
use Rattle.ol_law_completeness.specs.Laws.{CrossesNoStuck}
use Rattle.ol_law_completeness.specs.Complete.{StaysClear}
use Rattle.ol_law_completeness.specs.Least.{IsEnough, done, past}
use Rattle.ol_law_completeness.specs.TheLeast.{DemandedIsEnough}
use Rattle.ol_law_completeness.proofs.AsItIs.{InVain, vain_lasts, tried_more, before_next, no_lams}
use Rattle.ol_law_completeness.proofs.Lasting.{Lasts, lasts_here, lasts_on, lasts_step}

module _ (heads : ℕ) where
  -- In each net in which lasts what this one has: what is enough for what is left is enough for
  -- all.
  record Read (M : NamedNet NodeName) (a : Asking) : Type 0 where
    ahead : (P : NamedNet NodeName) → Lasts M P → IsEnough P heads a.frames a.waiting →
        IsEnough P heads [] (whole_term ∷ [])
    tried : (s : Subterm) (ss : List Subterm) → a.waiting ≡ s ∷ ss → (j : ℕ) → j < a.lams →
        InVain M s j

  read_on : (N M K : NamedNet NodeName) (journal es : List Entry) (ns : List ReadNode)
      (a b : Asking) → IsKept N journal M → CrossesNoStuck M → CrossesNoStuck K →
      Turn heads M (length journal) a es ns K b → Read M a → Read K b
  read_on N M K journal es ns a b k clear clear' (rewrites {F = F} {s = s} {ss = ss} {n = n} {e = e}
      m) u = record {
        ahead = λ P l r. u.ahead P (lasts_on M K P on l) r;
        tried = λ t ts z j c. vain_lasts M K on t j (u.tried t ts z j c);
      }
    where
      on : Lasts M K
      on = lasts_step M K (length journal) e k.net k.named clear' m.step
  read_on N M K journal es ns a b k clear clear' (one_more {F = F} {s = s} {ss = ss} {n = n} h l) u =
      record { ahead = u.ahead; tried = tried_more M k.net heads F s ss n h u.tried }
  read_on N M K journal es ns a b k clear clear' (finds {F = F} {s = s} {ss = ss} {n = n}
      {a = c} h f) u = record {
        ahead = λ P l r. u.ahead P l (before_next M k.net heads F s ss n P l h f
            (u.tried s ss refl) (inr clear) r);
        tried = none c;
      }
    where
      none : (c : Answer) (t : Subterm) (ts : List Subterm) → (next F s ss c).waiting ≡ t ∷ ts →
          (j : ℕ) → j < (next F s ss c).lams → InVain M t j
      none c t ts e j b = absurd (let z = no_lams F s ss c in omega arith)

  read : {N M : NamedNet NodeName} {turns : ℕ} {journal : List Entry} {places : List ReadNode}
      {a : Asking} → IsStart N → StaysClear N → Turns N heads turns journal places M a → Read M a
  read s clear begins = record {
    ahead = λ P l r. r;
    tried = λ t ts z j b. absurd (omega arith);
  }
  read {N = N} s clear (and_then {journal = journal} {es = es} {ns = ns} {M = M} {P = K} {a = a}
      {b = b} y t) =
      let k = turns_kept s y in
      let k' = turns_kept s (and_then y t) in
      read_on N M K journal es ns a b k (clear journal M k.run) (clear (journal ++ es) K k'.run) t
      (read s clear y)

pub demanded_is_enough : DemandedIsEnough
demanded_is_enough N M heads journal places s clear d =
    (read heads s clear d.run).ahead M (lasts_here M) (by d.last d.over)
  where
    by : (a : Asking) → (a.waiting ≡ []) ⊎ (heads ≤ length a.frames) →
        IsEnough M heads a.frames a.waiting
    by a (inl e) = subst (λ ss. IsEnough M heads a.frames ss) (sym e) done
    by a (inr b) = past b
