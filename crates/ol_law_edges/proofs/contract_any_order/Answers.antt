use Rattle.ol_law_edges.proofs.contract_any_order.Goals as goal
use Rattle.ol_law_edges.proofs.Contraction as laws

pub returns-clause-order : goal.returns-clause-order
returns-clause-order g c = λ same t ps qs es k r u v. laws.any_order same t ps qs es k r u v

pub returns-clause-joins : goal.returns-clause-joins
returns-clause-joins g c = λ same t ps es r u v. laws.left_edges same t ps es r u v
