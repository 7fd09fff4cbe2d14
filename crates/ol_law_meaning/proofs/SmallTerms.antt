-- Reductions of small terms.
use Rattle.std.proofs.Common.{ℕ, zero, suc, [], ◌∷◌, true, refl}
use Rattle.ol_beta.proofs.Redexes.{no_leftmost}
use Rattle.ol_readback.specs.Whole.{term, lost, none, more}
use Rattle.ol_readback.specs.declared.answers.HeadVar.TheVariants as head
use Rattle.ol_law_meaning.specs.Contraction.{Tree, var, free, lam, app, HeadStep, beta}
use Rattle.ol_law_meaning.specs.Heads.{Steps, done, step}
use Rattle.ol_law_meaning.specs.Shows.{ready, contract, HeadReducesForever, Shows}
use Rattle.ol_law_meaning.specs.Examples.{identity, twice, self, loops, EndsIn, HasNoEnd, Unused, HasHeadAlone}
use Rattle.ol_law_meaning.specs.Examples.{SmallTerms}
use Rattle.ol_law_meaning.proofs.Endless.{comes_to_none, never_ends}
use Rattle.ol_law_meaning.proofs.Endings.{has_no_end, no_redex}

identities : EndsIn (app identity identity) identity
identities = record { leads = contract {at = []} refl refl ready; is_normal = no_leftmost identity refl }

selves : EndsIn (app self identity) identity
selves = record {
  leads = contract {at = []} refl refl (contract {at = []} refl refl ready);
  is_normal = no_leftmost identity refl;
}

both : EndsIn (app twice identity) identity
both = record {
  leads = contract {at = []} refl refl (contract {at = 0 ∷ []} refl refl (contract {at = 0 ∷ []} refl refl ready));
  is_normal = no_leftmost identity refl;
}

unused : Unused
unused = record { leads = contract {at = []} refl refl ready; is_normal = no_leftmost (free 0) refl }

again : HeadStep loops loops
again = beta {M = app (var 0) (var 0)} {N = self}

again_and_again : (m : ℕ) → (u : Tree) × Steps loops u m
again_and_again zero = (loops, done)
again_and_again (suc m) = let r = again_and_again m in (r.0, step again r.1)

forever : HeadReducesForever loops
forever = never_ends again_and_again

no_end : HasNoEnd
no_end = record {
  itself = contract {at = []} tt refl ready;
  endless = forever;
  none = λ u s n. comes_to_none loops u forever s n;
}

shown : Shows true [] 0 (term 1 (head.Bound 0 1) (more lost none)) (lam (app (var 0) loops))
shown = (loops ∷ [], ready, ((λ e. forever), refl))

head_alone : HasHeadAlone
head_alone = record {
  is_head = record { abstractions = 1; head = var 0; arguments = loops ∷ []; variable = tt; is = refl };
  fills = (loops ∷ [], refl, ((λ e. forever), refl));
  shows = shown;
  none = λ v r n. has_no_end (term 1 (head.Bound 0 1) (more lost none))
      (lam (app (var 0) loops)) v tt shown r (no_redex v n);
}

pub small : SmallTerms
small = record {
  normal = record { identities = identities; selves = selves; both = both };
  unused = unused;
  head_alone = head_alone;
  no_end = no_end;
}
