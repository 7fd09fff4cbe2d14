-- The counts of a journal, entry by entry.
use Rattle.std.proofs.Common.{◌≡◌, ℕ, suc, ◌+◌, ◌<◌, ◌≤◌, Bool, true, false, List, length, get_or}
use Rattle.std.proofs.Common.{sym, ap, ◌∙◌, refl, arith}
use Rattle.std.specs.Prelude.{take, count_by}
use Rattle.std.proofs.lemmas.List.{length-take-le}
use Rattle.std.proofs.lemmas.List.Sums.{count_by-le-length, count_by_more_yes, count_by_more_no}
use Rattle.ol_net.specs.declared.parts.Rule.{Rule}
use Rattle.ol_net.specs.declared.parts.Rule.TheVariants as rule
use Rattle.ol_rules.specs.declared.journal.Entry.{Entry}
use Rattle.ol_rules.specs.declared.journal.Counts.{Counts}
use Rattle.ol_rules.specs.Counting.{is_rule, times_applied, counts_of}
use Rattle.ol_rules.specs.Counted.{one_if, counted, HaveRoom}

module _ (j : List Entry) (k : ℕ) where
  one_more : (e : Entry) (r : Rule) → k < length j → e ≡ get_or j k e →
      times_applied r (take (k + 1) j) ≡ times_applied r (take k j) + one_if (is_rule e.rule r)
  one_more e r lt got = go (is_rule e.rule r) refl
    where
      go : (b : Bool) → is_rule e.rule r ≡ b →
          times_applied r (take (k + 1) j) ≡ times_applied r (take k j) + one_if (is_rule e.rule r)
      go true q = count_by_more_yes (λ (e : Entry). is_rule e.rule r) j k e lt
          (ap (λ (e : Entry). is_rule e.rule r) (sym got) ∙ q) ∙ ap (λ b. times_applied r (take k j) + one_if b) (sym q)
      go false q = (let same : times_applied r (take (k + 1) j) ≡ times_applied r
          (take k j) + one_if false = omega (
            arith,
            count_by_more_no (λ (e : Entry). is_rule e.rule r) j k e lt
                (ap (λ (e : Entry). is_rule e.rule r) (sym got) ∙ q),
          ) in same)
          ∙ ap (λ b. times_applied r (take k j) + one_if b) (sym q)

  pub more_counted : (e : Entry) (told : Counts) → k < length j → e ≡ get_or j k e →
      told ≡ counts_of (take k j) → counted told e.rule ≡ counts_of (take (k + 1) j)
  more_counted e told lt got is = ap (λ c. counted c e.rule) is ∙ sym (λ i. record {
    beta = one_more e rule.Beta lt got i;
    fan = one_more e rule.Fan lt got i;
    croissant = one_more e rule.Croissant lt got i;
    bracket = one_more e rule.Bracket lt got i;
    cross_fan = one_more e rule.CrossFan lt got i;
    cross_croissant = one_more e rule.CrossCroissant lt got i;
    cross_bracket = one_more e rule.CrossBracket lt got i;
    erase = one_more e rule.Erase lt got i;
  })

  pub have_room : (told : Counts) → k < length j → told ≡ counts_of (take k j) → k < 4294967295 → HaveRoom told
  have_room told lt is small = (
    omega (arith, ap (λ (c : Counts). c.beta) is, few rule.Beta, small),
    omega (arith, ap (λ (c : Counts). c.fan) is, few rule.Fan, small),
    omega (arith, ap (λ (c : Counts). c.croissant) is, few rule.Croissant, small),
    omega (arith, ap (λ (c : Counts). c.bracket) is, few rule.Bracket, small),
    omega (arith, ap (λ (c : Counts). c.cross_fan) is, few rule.CrossFan, small),
    omega (arith, ap (λ (c : Counts). c.cross_croissant) is, few rule.CrossCroissant, small),
    omega (arith, ap (λ (c : Counts). c.cross_bracket) is, few rule.CrossBracket, small),
    omega (arith, ap (λ (c : Counts). c.erase) is, few rule.Erase, small),
  )
    where
      few : (r : Rule) → times_applied r (take k j) ≤ k
      few r = omega (
        arith,
        count_by-le-length (λ (e : Entry). is_rule e.rule r) (take k j),
        length-take-le k j (omega (arith, lt)),
      )
