-- How much fuel demand order wants: the law `demand_has_fuel`.
use Rattle.std.proofs.Common.{◌≡◌, ℕ, suc, zero, Bool, List, [], ◌∷◌, ◌++◌, length, map, inl, refl, sym, ap, ◌∙◌, arith}
use Rattle.std.proofs.lemmas.List.{length-append}
use Rattle.ol_net.specs.Nets.{NamedNet}
use Rattle.ol_context.specs.Contexts.{Level}
use Rattle.ol_term.specs.declared.translations.Translation.{Translation}
use Rattle.ol_term.specs.Trees.{Tree}
use Rattle.ol_translate.specs.Names.{HasNames}
use Rattle.ol_readback.specs.Frames.{Frame}
use Rattle.ol_readback.specs.ReadTrees.{Subterm, whole_term, framed, port_of, arguments}
use Rattle.ol_readback.specs.Sources.{HaveHeadsOf}
use Rattle.ol_readback.specs.Sources as sources
use Rattle.ol_readback.specs.declared.answers.HeadVar.{HeadVar}
use Rattle.ol_readback.specs.declared.answers.ReadNode.{ReadNode}
use Rattle.ol_readback.specs.declared.answers.ReadNode.TheVariants as node
use Rattle.ol_law_levels.proofs.DemandPlaces.{demand_places}
use Rattle.ol_law_confluence.proofs.HeadForms.{ends}
use Rattle.ol_law_confluence.proofs.LeftmostEnds.{leftmost_finds}
use Rattle.ol_law_completeness.specs.Complete.{ReadsFirst}
use Rattle.ol_law_completeness.proofs.Levelled.{head_normal_form_is_read}
use Rattle.ol_cli.specs.Run.{start_net_of_term}
use Rattle.ol_cli.specs.Demand.{DemandEnds}
use Rattle.ol_cli.specs.DemandFuel.{DemandHasFuel, HeadHasFuel}
use Rattle.ol_cli.proofs.DemandedLines.{is_demanded}
use Rattle.ol_cli.proofs.StartNet.{start_net_is_fit, is_read_within, ends_within}

pub demand_has_fuel : DemandHasFuel
demand_has_fuel tr t names has v r n =
    let x = is_demanded tr t names has v (leftmost_finds r n) n in (
      x.tree,
      x.term,
      x.steps,
      x.told,
      λ heads fuel b. (x.ends fuel heads b, x.no_more fuel heads b),
    )

-- ---- one head

count_arguments : (i q : ℕ) (ls : List Level) (j k : ℕ) → length (arguments i q ls j k) ≡ k
count_arguments i q ls j zero = refl
count_arguments i q ls j (suc k) = ap suc (count_arguments i q ls (suc j) k)

module _ {A : Type 0} (N : NamedNet A) where
  -- as many subterms as there are cut places
  count_cuts : {b : Bool} {F : List Frame} {ss : List Subterm} {ns : List ReadNode} →
      HaveHeadsOf N b F ss ns → (later : List Subterm) → ns ≡ map (λ s. node.Cut) later →
      length ss ≡ length later
  count_cuts sources.end [] e = refl
  count_cuts sources.end (s ∷ later) e = absurd (cc)
  count_cuts (sources.cut r) [] e = absurd (cc)
  count_cuts (sources.cut {ns = ns} r) (s ∷ later) e =
      let z : ns ≡ map (λ s. node.Cut) later = cc in ap suc (count_cuts r later z)
  count_cuts (sources.lost h r) [] e = absurd (cc)
  count_cuts (sources.lost h r) (s ∷ later) e = absurd (cc)
  count_cuts (sources.found h r) [] e = absurd (cc)
  count_cuts (sources.found h r) (s ∷ later) e = absurd (cc)

  cuts_of_head : {b : Bool} {F : List Frame} {ns : List ReadNode} {n k : ℕ} {v : HeadVar} →
      HaveHeadsOf N b F (whole_term ∷ []) ns → (later : List Subterm) →
      ns ≡ node.Head n v k ∷ map (λ s. node.Cut) later → length later ≡ k
  cuts_of_head (sources.cut r) later e = absurd (cc)
  cuts_of_head (sources.lost h r) later e = absurd (cc)
  cuts_of_head {F = F} {k = k} (sources.found {ns = ns} {n = n'} {k = k'} {v = v'} {ls = ls} h r)
      later e =
      let z : ns ≡ map (λ s. node.Cut) later = cc in
      let same : k' ≡ k = cc in
      let all = count_cuts r later z in
      let q = port_of (F ++ framed whole_term n' ∷ []) v' in
      let long = length-append (arguments (length F) q ls 0 k') [] in
      let args = count_arguments (length F) q ls 0 k' in
      omega arith

cuts_alike : (ss : List Subterm) (Ps : List Tree) → length ss ≡ length Ps →
    map (λ s. node.Cut) ss ≡ map (λ P. node.Cut) Ps
cuts_alike [] [] e = refl
cuts_alike [] (P ∷ Ps) e = absurd (omega arith)
cuts_alike (s ∷ ss) [] e = absurd (omega arith)
cuts_alike (s ∷ ss) (P ∷ Ps) e = ap (λ ns. node.Cut ∷ ns) (cuts_alike ss Ps (omega arith))

-- what is read where one head is asked for and found
head_alone : (tr : Translation) (t : Tree) (names : List (List ℕ)) → HasNames t (length names) →
    (n k : ℕ) (v : HeadVar) (Ps : List Tree) → length Ps ≡ k → (fuel : ℕ)
    (d : DemandEnds tr t names fuel 1) → ReadsFirst 1 (node.Head n v k ∷ []) d.tree →
    d.tree ≡ node.Head n v k ∷ map (λ P. node.Cut) Ps
head_alone tr t names has n k v Ps count fuel d first =
    let N = start_net_of_term tr t names in
    let fit = (start_net_is_fit tr t names has).0 in
    let places = demand_places N d.net 1 d.journal d.tree fit.start fit.levelled d.run in
    let few = cuts_of_head N places first.later first.is in
    first.is ∙ ap (λ ns. node.Head n v k ∷ ns) (cuts_alike first.later Ps (few ∙ sym count))

pub head_has_fuel : HeadHasFuel
head_has_fuel tr t names has form =
    let e = ends form in
    let x = head_normal_form_is_read tr t (length names) has e.form e.reduces e.is_head_normal in
    let n = x.0 in
    let k = x.1 in
    let v = x.2 in
    let m = x.6 in
    let ns = node.Head n v k ∷ [] in
    let w = is_read_within tr t names has 1 m ns x.7 1 (inl (omega arith)) in (
      n,
      k,
      v,
      x.3,
      x.4,
      x.5,
      m,
      x.7,
      λ fuel b.
          (ends_within tr t names has 1 m ns x.7 1 (inl (omega arith)) fuel b, λ out. w.ends fuel b out),
      λ fuel d.
          head_alone tr t names has n k v x.3 x.4 fuel d (w.places d.journal d.tree d.net d.run),
    )
