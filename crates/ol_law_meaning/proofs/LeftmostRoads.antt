-- From what a whole tree shows to leftmost reduction: it leads to the tree's term.
use Rattle.std.proofs.Common.{◌≡◌, ℕ, zero, suc, ◌+◌, Bool, true, false, if◌then◌else◌, List, []}
use Rattle.std.proofs.Common.{◌∷◌, length, Option, Some, None, refl, sym, ap, ◌∙◌, subst}
use Rattle.std.specs.Option.{option_map, option_or}
use Rattle.ol_beta.specs.Beta.{contracted}
use Rattle.ol_beta.specs.Leftmost.{leftmost, is_abstraction}
use Rattle.ol_beta.specs.Leftmost as beta_steps
use Rattle.ol_readback.specs.Whole.{Part, term, lost, cut, none, more, preorder}
use Rattle.ol_readback.specs.Terms.{HasAllHeads, abstracted, variable_of, meaning, term_of}
use Rattle.ol_readback.specs.declared.answers.HeadVar.{HeadVar}
use Rattle.ol_readback.specs.declared.answers.HeadVar.TheVariants as head
use Rattle.ol_readback.proofs.OneTree.{all_left, all_right}
use Rattle.ol_law_meaning.specs.Contraction.{Tree, lam, app}
use Rattle.ol_law_meaning.specs.Shows.{ReducesBy, ready, contract, LeftmostReduces, HeadReduces, applied, Shows}
use Rattle.ol_law_meaning.proofs.LeftmostSteps.{leftmost_step}
use Rattle.ol_law_meaning.proofs.HeadSteps.{step_of}

-- ---- leftmost steps within a term

pub then_leads : {Chosen : Tree → List ℕ → Type 0} {t u v : Tree} → ReducesBy Chosen t u →
    ReducesBy Chosen u v → ReducesBy Chosen t v
then_leads ready r = r
then_leads (contract e f l) r = contract e f (then_leads l r)

head_leads : {t u : Tree} → HeadReduces t u → LeftmostReduces t u
head_leads ready = ready
head_leads (contract c e l) = let r = leftmost_step (step_of c e) in contract r.1 r.2 (head_leads l)

pub lam_leads : {t u : Tree} → LeftmostReduces t u → LeftmostReduces (lam t) (lam u)
lam_leads ready = ready
lam_leads (contract {at = at} e f l) = contract {at = 0 ∷ at} (ap (beta_steps.under 0) e)
    (ap (option_map lam) f) (lam_leads l)

abstracted_leads : (l : ℕ) {t u : Tree} → LeftmostReduces t u → LeftmostReduces (abstracted l t) (abstracted l u)
abstracted_leads zero r = r
abstracted_leads (suc l) r = lam_leads (abstracted_leads l r)

-- no abstraction and no redex
pub record IsNeutral (t : Tree) : Type 0 where
  pub plain : is_abstraction t ≡ false
  pub none : leftmost t ≡ None

-- the leftmost redex of an application whose function is none and has none
pub arg_leftmost : (f a : Tree) (o : Option (List ℕ)) → IsNeutral f → leftmost a ≡ o →
    leftmost (app f a) ≡ beta_steps.under 2 o
arg_leftmost f a o n e =
    ap (λ b. if b then Some [] else option_or (beta_steps.under 1 (leftmost f))
    (beta_steps.under 2 (leftmost a))) n.plain
    ∙ ap (λ x. option_or (beta_steps.under 1 x) (beta_steps.under 2 (leftmost a))) n.none ∙ ap (beta_steps.under 2) e

-- and of one whose function has one and is no abstraction
pub fun_leftmost : (f a : Tree) (at : List ℕ) → is_abstraction f ≡ false → leftmost f ≡ Some at →
    leftmost (app f a) ≡ Some (1 ∷ at)
fun_leftmost f a at n e =
    ap (λ b. if b then Some [] else option_or (beta_steps.under 1 (leftmost f)) (beta_steps.under 2 (leftmost a))) n
    ∙ ap (λ x. option_or (beta_steps.under 1 x) (beta_steps.under 2 (leftmost a))) e

-- a leftmost step
pub record StepsTo (t u : Tree) : Type 0 where
  pub at : List ℕ
  pub first : leftmost t ≡ Some at
  pub gives : contracted t at ≡ Some u

pub step_before : (Ps : List Tree) (t u : Tree) → is_abstraction t ≡ false → StepsTo t u →
    StepsTo (applied t Ps) (applied u Ps)
step_before [] t u n s = s
step_before (P ∷ Ps) t u n s = step_before Ps (app t P) (app u P) refl
    (record { at = 1 ∷ s.at; first = fun_leftmost t P s.at n s.first; gives = ap (option_map (λ g. app g P)) s.gives })

-- the steps of one argument, before further ones
arg_leads : (f : Tree) → IsNeutral f → (Ps : List Tree) {t u : Tree} → LeftmostReduces t u →
    LeftmostReduces (applied (app f t) Ps) (applied (app f u) Ps)
arg_leads f n Ps ready = ready
arg_leads f n Ps (contract {t = t} {u = u} {at = at} e g l) =
    let s = step_before Ps (app f t) (app f u) refl
    (record { at = 2 ∷ at; first = arg_leftmost f t (Some at) n e; gives = ap (option_map (app f)) g }) in
    contract s.first s.gives (arg_leads f n Ps l)

-- ---- a whole tree

pub variable_neutral : (ss : List (ℕ × ℕ)) (v : HeadVar) → IsNeutral (variable_of ss v)
variable_neutral ss (head.Bound i j) = record { plain = refl; none = refl }
variable_neutral ss (head.Free q) = record { plain = refl; none = refl }

pub abstracted_none : (l : ℕ) (t : Tree) → leftmost t ≡ None → leftmost (abstracted l t) ≡ None
abstracted_none zero t e = e
abstracted_none (suc l) t e = ap (beta_steps.under 0) (abstracted_none l t e)

module _ (b : Bool) where
  -- a tree's term is reached, and has no redex; and so the terms of a list of trees, one after another
  abbrev Leads : {c : Bool} → Part c → Type 0
  Leads {c = true} t = (ss : List (ℕ × ℕ)) (i : ℕ) (P : Tree) → HasAllHeads (preorder t) →
      Shows b ss i t P → LeftmostReduces P (meaning ss i t) × (leftmost (meaning ss i t) ≡ None)
  Leads {c = false} ts = (ss : List (ℕ × ℕ)) (i : ℕ) (Ps : List Tree) (f : Tree) → IsNeutral f →
      HasAllHeads (preorder ts) → Shows b ss i ts Ps →
      LeftmostReduces (applied f Ps) (meaning ss i ts f) × IsNeutral (meaning ss i ts f)

  leads_term : (l : ℕ) (v : HeadVar) (ts : Part false) → Leads ts → Leads (term l v ts)
  leads_term l v ts up ss i P h g =
      let x = up ((i, l) ∷ ss) (suc i) g.0 (variable_of ((i, l) ∷ ss) v) (variable_neutral ((i, l) ∷ ss) v) h g.2 in (
        then_leads (head_leads g.1) (abstracted_leads l x.0),
        abstracted_none l (meaning ((i, l) ∷ ss) (suc i) ts (variable_of ((i, l) ∷ ss) v)) x.1.none,
      )

  leads_lost : Leads lost
  leads_lost ss i P h g = absurd h

  leads_cut : Leads cut
  leads_cut ss i P h g = absurd h

  leads_none : Leads none
  leads_none ss i Ps f n h g = (subst (λ Ps. LeftmostReduces (applied f Ps) f) (sym g) ready, n)

  leads_more : (t : Part true) (ts : Part false) → Leads t → Leads ts → Leads (more t ts)
  leads_more t ts up next_up ss i [] f n h g = absurd g
  leads_more t ts up next_up ss i (P ∷ Ps) f n h g =
      let x = up ss i P (all_left (preorder t) (preorder ts) h) g.0 in
      let m : IsNeutral (app f (meaning ss i t)) = record {
        plain = refl;
        none = arg_leftmost f (meaning ss i t) None n x.1;
      } in
      let y = next_up ss (i + length (preorder t)) Ps (app f (meaning ss i t)) m
      (all_right (preorder t) (preorder ts) h) g.1 in
      (then_leads (arg_leads f n Ps x.0) y.0, y.1)

  leads : {c : Bool} (t : Part c) → Leads t
  leads (term l v ts) = leads_term l v ts (leads ts)
  leads lost = leads_lost
  leads cut = leads_cut
  leads none = leads_none
  leads (more t ts) = leads_more t ts (leads t) (leads ts)

  pub tree_reached : (t : Part true) (P : Tree) → HasAllHeads (preorder t) → Shows b [] 0 t P →
      LeftmostReduces P (term_of t) × (leftmost (term_of t) ≡ None)
  tree_reached t P h g = leads t [] 0 P h g
