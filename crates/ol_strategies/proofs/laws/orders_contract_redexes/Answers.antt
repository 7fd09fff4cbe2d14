use Rattle.ol_strategies.proofs.Nexts.{next_is_redex, at_head_address, innermost}
use Rattle.ol_strategies.proofs.Firsts.{applicative_first, value_first}
use Rattle.ol_strategies.proofs.laws.orders_contract_redexes.Goals as goal

pub returns-clause-redex : goal.returns-clause-redex
returns-clause-redex c = next_is_redex

pub returns-clause-head : goal.returns-clause-head
returns-clause-head c = at_head_address

pub returns-clause-innermost : goal.returns-clause-innermost
returns-clause-innermost c = innermost

pub returns-clause-first : goal.returns-clause-first
returns-clause-first c = applicative_first

pub returns-clause-value : goal.returns-clause-value
returns-clause-value c = value_first
