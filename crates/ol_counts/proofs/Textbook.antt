-- What the rules of call-by-need are to the machine, to the normal form and to other orders: the laws.
use Rattle.std.proofs.Common.{◌≡◌, ℕ, true, Some, subst}
use Rattle.ol_beta.specs.Leftmost.{IsNormal}
use Rattle.ol_counts.specs.Machines.{need_count}
use Rattle.ol_term.specs.Trees.{Tree, is_below}
use Rattle.ol_law_confluence.specs.Reductions.{turned}
use Rattle.ol_law_confluence.proofs.Meetings.{convertible_leads, normal_one}
use Rattle.ol_law_meaning.specs.Shows.{BetaReduces, ready}
use Rattle.ol_counts.specs.NeedLaws.{MachineIsByRules, RulesAreFollowed, RulesGiveTheNormalForm, RulesFindTheNormalForm}
use Rattle.ol_counts.specs.NeedLaws.{RulesAreNoMoreThanLeftmost, DemandIsNoMoreThanRules}
use Rattle.ol_counts.specs.NeedRules.{ReducesByNeed}
use Rattle.ol_counts.proofs.Conversions.{is_normal}
use Rattle.ol_counts.proofs.Ending.{demand_is_no_more_than_need}
use Rattle.ol_counts.proofs.Found.{need_finds_the_normal_form, need_is_no_more_than_leftmost}
use Rattle.ol_counts.proofs.Meanings.{comes_to_form}
use Rattle.ol_counts.proofs.Normalizing.{by_rules}
use Rattle.ol_counts.proofs.OneForm.{comes_to_one}

form_of : (t v : Tree) (n : ℕ) → is_below 0 t ≡ true → ReducesByNeed t v n → BetaReduces t v × IsNormal v
form_of t v n b r =
    let x = comes_to_form t v n b r in
    let k = is_normal v x.1 in
    (convertible_leads (turned x.0) ready k, k)

pub rules_give_the_normal_form : RulesGiveTheNormalForm
rules_give_the_normal_form t v n b r =
    let x = form_of t v n b r in (x.0, x.1, λ u c k. normal_one c x.0 k x.1)

pub machine_is_by_rules : MachineIsByRules
machine_is_by_rules t b moves n e = by_rules t b moves n e

pub rules_are_followed : RulesAreFollowed
rules_are_followed t v n b r =
    let x = form_of t v n b r in
    let m = need_finds_the_normal_form t v b x.0 x.1 in
    let y = by_rules t b m.0 m.1 m.2 in
    (m.0, subst (λ n. need_count t m.0 ≡ Some n) (comes_to_one t y.0 v m.1 n y.1 r).1 m.2)

pub rules_find_the_normal_form : RulesFindTheNormalForm
rules_find_the_normal_form t v b r k =
    let m = need_finds_the_normal_form t v b r k in
    let y = by_rules t b m.0 m.1 m.2 in
    let x = form_of t y.0 m.1 b y.1 in
    (m.1, subst (λ v. ReducesByNeed t v m.1) (normal_one x.0 r x.1 k) y.1)

pub rules_are_no_more_than_leftmost : RulesAreNoMoreThanLeftmost
rules_are_no_more_than_leftmost t v w n b c r k =
    let m = rules_are_followed t w n b c in
    need_is_no_more_than_leftmost t v b r k m.0 n m.1

pub call_by_need_by_rules : DemandIsNoMoreThanRules
call_by_need_by_rules τ t names h v n c g k same heads turns journal places M a r =
    let m = rules_are_followed t v n h.bound c in
    demand_is_no_more_than_need τ t names h m.0 n m.1 g k same heads turns journal places M a r
