-- From what a tree shows to beta reduction: it leads to the tree's term, with some term in the place of each hole.
use Rattle.std.proofs.Common.{ℕ, zero, suc, ◌+◌, Bool, true, false, List, [], ◌∷◌, length, refl, sym, ap, subst}
use Rattle.std.specs.Option.{option_map}
use Rattle.ol_readback.specs.Whole.{Part, term, lost, cut, none, more, preorder}
use Rattle.ol_readback.specs.Terms.{abstracted, variable_of}
use Rattle.ol_readback.specs.declared.answers.HeadVar.{HeadVar}
use Rattle.ol_law_meaning.specs.Contraction.{Tree, lam, app}
use Rattle.ol_law_meaning.specs.Shows.{ready, contract, BetaReduces, HeadReduces, applied, Fills, Shows}
use Rattle.ol_law_meaning.proofs.LeftmostRoads.{then_leads}

-- ---- beta reduction within a term

pub head_beta : {t u : Tree} → HeadReduces t u → BetaReduces t u
head_beta ready = ready
head_beta (contract {at = at} c e l) = contract {at = at} tt e (head_beta l)

pub lam_beta : {t u : Tree} → BetaReduces t u → BetaReduces (lam t) (lam u)
lam_beta ready = ready
lam_beta (contract {at = at} c e l) = contract {at = 0 ∷ at} tt (ap (option_map lam) e) (lam_beta l)

pub fun_beta : (a : Tree) {t u : Tree} → BetaReduces t u → BetaReduces (app t a) (app u a)
fun_beta a ready = ready
fun_beta a (contract {at = at} c e l) = contract {at = 1 ∷ at} tt (ap (option_map (λ g. app g a)) e) (fun_beta a l)

pub arg_beta : (f : Tree) {t u : Tree} → BetaReduces t u → BetaReduces (app f t) (app f u)
arg_beta f ready = ready
arg_beta f (contract {at = at} c e l) = contract {at = 2 ∷ at} tt (ap (option_map (app f)) e) (arg_beta f l)

abstracted_beta : (l : ℕ) {t u : Tree} → BetaReduces t u → BetaReduces (abstracted l t) (abstracted l u)
abstracted_beta zero r = r
abstracted_beta (suc l) r = lam_beta (abstracted_beta l r)

applied_beta : (Ps : List Tree) {t u : Tree} → BetaReduces t u → BetaReduces (applied t Ps) (applied u Ps)
applied_beta [] r = r
applied_beta (P ∷ Ps) r = applied_beta Ps (fun_beta P r)

-- ---- a whole tree

module _ (b : Bool) where
  -- a term comes to what fills the tree; and so do arguments, whatever they are given to
  abbrev Fill : {c : Bool} → Part c → Type 0
  Fill {c = true} t = (ss : List (ℕ × ℕ)) (i : ℕ) (P : Tree) → Shows b ss i t P →
      (Q : Tree) × BetaReduces P Q × Fills b ss i t Q
  Fill {c = false} ts = (ss : List (ℕ × ℕ)) (i : ℕ) (Ps : List Tree) → Shows b ss i ts Ps →
      (Qs : List Tree) × ((f : Tree) → BetaReduces (applied f Ps) (applied f Qs)) × Fills b ss i ts Qs

  fill_term : (l : ℕ) (v : HeadVar) (ts : Part false) → Fill ts → Fill (term l v ts)
  fill_term l v ts up ss i P g =
      let x = up ((i, l) ∷ ss) (suc i) g.0 g.2 in
      let h = variable_of ((i, l) ∷ ss) v in
      (abstracted l (applied h x.0), then_leads (head_beta g.1) (abstracted_beta l (x.1 h)), (x.0, refl, x.2))

  fill_more : (t : Part true) (ts : Part false) → Fill t → Fill ts → Fill (more t ts)
  fill_more t ts up next_up ss i [] g = absurd g
  fill_more t ts up next_up ss i (P ∷ Ps) g =
      let x = up ss i P g.0 in
      let y = next_up ss (i + length (preorder t)) Ps g.1 in
      (x.0 ∷ y.0, (λ f. then_leads (applied_beta Ps (arg_beta f x.1)) (y.1 (app f x.0))), (x.2, y.2))

  fill : {c : Bool} (t : Part c) → Fill t
  fill (term l v ts) = fill_term l v ts (fill ts)
  fill lost = λ ss i P g. (P, ready, g)
  fill cut = λ ss i P g. (P, ready, tt)
  fill none = λ ss i Ps g. ([], (λ f. subst (λ Ps. BetaReduces (applied f Ps) f) (sym g) ready), refl)
  fill (more t ts) = fill_more t ts (fill t) (fill ts)

  pub filled : (t : Part true) (P : Tree) → Shows b [] 0 t P → (Q : Tree) × BetaReduces P Q × Fills b [] 0 t Q
  filled t P g = fill t [] 0 P g
