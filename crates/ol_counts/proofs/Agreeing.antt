-- All complete runs of one net have one table.
use Rattle.std.proofs.Common.{◌≡◌, ℕ, suc, ◌+◌, Bool, true, false, ◌&&◌, cond, List, [], ◌∷◌}
use Rattle.std.proofs.Common.{map, count_by, refl, sym, ap, ◌∙◌, subst, arith}
use Rattle.std.proofs.lemmas.List.Sums.{sum_by-cons}
use Rattle.std.specs.Prelude.{nat_eq}
use Rattle.ol_net.specs.declared.parts.Rule.{Rule}
use Rattle.ol_net.specs.Nets.{net_under}
use Rattle.ol_rules.specs.declared.journal.NodeName.{NodeName}
use Rattle.ol_rules.specs.declared.journal.Entry.{Entry}
use Rattle.ol_rules.specs.Counting.{is_rule, times_applied}
use Rattle.ol_rules.specs.Counted.{one_if}
use Rattle.ol_rules.proofs.Same.{complete_same}
use Rattle.ol_diamond.specs.Births.{BirthName}
use Rattle.ol_diamond.specs.Runs.{BirthPair, AreBirths}
use Rattle.ol_diamond.specs.Waves.{weightless, IsWaveRun, IsOfWaves}
use Rattle.ol_diamond.proofs.Journals.{complete_follows}
use Rattle.ol_diamond.proofs.OneThreadRuns.{start_alike}
use Rattle.ol_diamond.proofs.OneThreadCounts.{one_counts}
use Rattle.ol_diamond.proofs.Weighted.{waves_agree}
use Rattle.ol_counts.specs.Waves.{in_wave}
use Rattle.ol_counts.specs.WaveLaws.{TablesAgree}

-- the pair has this rule and this wave
abbrev is_of : Rule → ℕ → BirthPair × ℕ → Bool
is_of r w p = is_rule p.0.rule r && nat_eq p.1 w

of_waves : (r : Rule) (w : ℕ) → IsOfWaves (is_of r w)
of_waves r w p q s = ap (λ x. is_rule x r && nat_eq p.1 w) s.0.0 ∙ ap (λ v. is_rule q.0.rule r && nat_eq v w) s.1

-- the waves of pairs
abbrev waves_in : List (BirthPair × ℕ) → List ℕ
waves_in ps = map (λ (p : BirthPair × ℕ). p.1) ps

-- the entries of a wave with a rule are as many as their pairs
as_many : (r : Rule) (w : ℕ) (m : NodeName → BirthName) (t : ℕ) (es : List Entry) (ps : List (BirthPair × ℕ)) →
    AreBirths m t es (map (λ (p : BirthPair × ℕ). p.0) ps) →
    times_applied r (in_wave w es (waves_in ps)) ≡ count_by (is_of r w) ps
as_many r w m t [] [] b = refl
as_many r w m t [] (p ∷ ps) b = absurd b
as_many r w m t (e ∷ es) [] b = absurd b
as_many r w m t (e ∷ es) (p ∷ ps) b =
    go (nat_eq p.1 w) (as_many r w m (suc t) es ps b.2)
    ∙ sym (sum_by-cons (λ (p : BirthPair × ℕ). one_if (is_of r w p)) p ps)
  where
    nothing : (n : ℕ) → n ≡ 0 + n
    nothing n = omega arith

    none : (b : Bool) → one_if (b && false) ≡ 0
    none true = refl
    none false = refl

    one : (b : Bool) → one_if (b && true) ≡ one_if b
    one true = refl
    one false = refl

    go : (v : Bool) → times_applied r (in_wave w es (waves_in ps)) ≡ count_by (is_of r w) ps →
        times_applied r (cond v (e ∷ in_wave w es (waves_in ps))
        (in_wave w es (waves_in ps)))
        ≡ one_if (is_rule p.0.rule r && v) + count_by (is_of r w) ps
    go true h = sum_by-cons (λ (e : Entry). one_if (is_rule e.rule r)) e (in_wave w es (waves_in ps))
        ∙ ap (λ x. one_if (is_rule x r) + times_applied r (in_wave w es (waves_in ps))) (sym b.0.0)
        ∙ ap (λ n. one_if (is_rule p.0.rule r) + n) h
        ∙ ap (λ n. n + count_by (is_of r w) ps) (sym (one (is_rule p.0.rule r)))
    go false h = h ∙ nothing (count_by (is_of r w) ps)
        ∙ ap (λ n. n + count_by (is_of r w) ps) (sym (none (is_rule p.0.rule r)))

pub tables_agree : TablesAgree
tables_agree N M P js ks ws vs net before r d r' d' w v u =
    let c = complete_same w.births.after w.after.net w.same ((complete_follows N M js net before r w.births).0 d) in
    let c' = complete_same v.births.after v.after.net v.same ((complete_follows N P ks net before r' v.births).0 d') in
    let run = subst (λ B. IsWaveRun (weightless B) v.pairs v.after)
    (start_alike N net before v.births.birth w.births.birth v.births.initial w.births.initial) v.run in
    one_counts (in_wave u js ws) (in_wave u ks vs) (λ x.
    ap (λ ws. times_applied x (in_wave u js ws)) (sym w.waves_are)
    ∙ as_many x u w.births.birth 0 js w.pairs
    (subst (λ ps. AreBirths w.births.birth 0 js ps) (sym w.of_births) w.births.births)
    ∙ waves_agree (net_under w.births.birth N) w.after v.after w.pairs v.pairs w.births.start w.run c run c'
    (is_of x u) (of_waves x u)
    ∙ sym (as_many x u v.births.birth 0 ks v.pairs
    (subst (λ ps. AreBirths v.births.birth 0 ks ps) (sym v.of_births) v.births.births))
    ∙ ap (λ ws. times_applied x (in_wave u ks ws)) v.waves_are)
