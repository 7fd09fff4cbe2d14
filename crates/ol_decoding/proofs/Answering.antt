-- From what is told of a term to the answer for a file.
use Rattle.std.proofs.Common.{◌≡◌, ℕ, zero, suc, Bool, true, false, if◌then◌else◌, ◌↔◌, List, [], ◌++◌, codes, refl}
use Rattle.std.proofs.Common.{Option, Some, None, sym, ap, ◌∙◌, subst, arith, append-nil}
use Rattle.std.specs.Prelude.{is_some, IsTrue}
use Rattle.std.specs.Fmt.{decimal}
use Rattle.ol_term.specs.declared.translations.Translation.{Translation}
use Rattle.ol_term.specs.Trees.{Tree, depth}
use Rattle.ol_net.specs.Graph.{Graph}
use Rattle.ol_readback.specs.Texts.{IsTextOf}
use Rattle.ol_readback.specs.declared.answers.ReadNode.{ReadNode}
use Rattle.ol_beta.specs.TreeTerms.{IsTermOf, IsTreeTooDeep}
use Rattle.ol_subjects.specs.declared.answers.End.{End}
use Rattle.ol_subjects.specs.declared.answers.End.TheVariants.{Yes, No}
use Rattle.ol_subjects.specs.Readied.{IsReady}
use Rattle.ol_decoding.specs.Values.{church_term}
use Rattle.ol_decoding.specs.Values as value
use Rattle.ol_decoding.specs.Told.{line, lines, IsTold, SomeFits}
use Rattle.ol_decoding.specs.Decoders.{of, told}
use Rattle.ol_decoding.specs.Numerals.{IsNumeralOf}
use Rattle.ol_decoding.specs.Shown.{TellsTree, IsShown}
use Rattle.ol_decoding.specs.Shown as shown
use Rattle.ol_decoding.specs.NormalFormsOfNets.{deep_text, TellsDeep, TellsNet}
use Rattle.ol_decoding.specs.NormalFormsOfNets as net
use Rattle.ol_decoding.proofs.Decoding.{church_found}
use Rattle.ol_decoding.proofs.NormalForms.{is_normal_form}
use Rattle.ol_decoding.proofs.Texts.{telling}
use Rattle.ol_beta.proofs.OneVerdict.{one_term}

pub tells : (names : List (List ℕ)) (ns : List ReadNode) (u : Tree) (printed told text : List ℕ) (b : Bool) →
    IsTextOf names ns printed → IsTermOf ns u → IsTold [] u told → (IsTrue b ↔ SomeFits u) →
    text ≡ printed ++ codes "\n" ++ told → TellsTree names ns text (if b then Yes else No)
tells names ns u printed told text true p i t f e = shown.fits p i t (f.0 refl) e
tells names ns u printed told text false p i t f e = shown.none p i t (λ s. let x = f.1 s in absurd (cc)) e

-- ---- a term that is too deep to be built

numeral_told : (m : ℕ) → IsTold [] (church_term (suc m)) (line [] (codes "Church numeral " ++ decimal (suc m)))
numeral_told m =
    let t = church_term (suc m) in
    let said = line [] (codes "Church numeral " ++ decimal (suc m)) in
    let e : told [] None t ≡ (said ++ []) ++ [] =
    ap (λ (o : Option ℕ). lines [] (of value.church o ++ []) ++ []) (church_found (suc m)) in
    subst (IsTold [] t) (e ∙ append-nil (said ++ []) ∙ append-nil said) (telling [] None t)

not_nought : (ns : List ReadNode) (d n : ℕ) → IsTreeTooDeep ns d → IsTermOf ns (church_term n) → n ≡ 0 → ⊥
not_nought ns d n i j e =
    let same = one_term ns i.term (church_term n) i.is_term j in
    let deep = i.is ∙ ap depth same ∙ ap (λ n. depth (church_term n)) e in
    let above = i.above in
    omega arith

pub deep_told : (ns : List ReadNode) (d : ℕ) (o : Option ℕ) (text : List ℕ) (b : Bool) → IsNumeralOf ns o →
    text ≡ deep_text d o → b ≡ is_some o → TellsDeep ns d text b
deep_told ns d (Some n) text b i e f = subst (TellsDeep ns d text) (sym f) (net.numeral n i e)
deep_told ns d None text b i e f = subst (TellsDeep ns d text) (sym f) (net.other i e)

pub tells_deep : (names : List (List ℕ)) (ns : List ReadNode) (d : ℕ) (printed said text : List ℕ) (b : Bool) →
    IsTextOf names ns printed → IsTreeTooDeep ns d → TellsDeep ns d said b → text ≡ printed ++ codes "\n" ++ said →
    TellsTree names ns text (if b then Yes else No)
tells_deep names ns d printed said text true p i (net.numeral zero t e) f = absurd (not_nought ns d 0 i t refl)
tells_deep names ns d printed said text true p i (net.numeral (suc m) t e) f = shown.fits p t
    (subst (IsTold [] (church_term (suc m))) (sym e) (numeral_told m)) (value.church (suc m), (refl, tt)) f
tells_deep names ns d printed said text false p i (net.other h e) f =
    shown.deep d p i h (f ∙ ap (λ x. printed ++ codes "\n" ++ x) e)

pub shown_of : (bytes : List ℕ) (τ : Translation) (fuel heads : ℕ) (t : Tree) (names : List (List ℕ)) (g : Graph)
    (text : List ℕ) (e : End) → IsReady τ bytes t names g → TellsNet g names fuel heads text e →
    IsShown bytes τ fuel heads text e
shown_of bytes τ fuel heads t names g text e r (net.goes_on h x) = shown.goes_on r.term r.ready h x
shown_of bytes τ fuel heads t names g text e r (net.ends {ns = ns} d h x) =
    shown.ends r.term r.ready d (is_normal_form τ bytes t names g ns r.term r.ready h) x
