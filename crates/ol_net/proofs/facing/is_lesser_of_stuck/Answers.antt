use Rattle.std.proofs.Common.{sym, ◌∙◌}
use Rattle.ol_net.proofs.Reading.{lesser-is, lesser-none}
use Rattle.ol_net.proofs.facing.is_lesser_of_stuck.Goals as goal

pub returns-in_default : goal.returns-in_default
returns-in_default c =
    lesser-none (record {
      free = c.args.free;
      nodes = c.args.nodes.now;
      partners = c.args.partners.now;
    }) c.args.at
    (λ e. c.in_default.not-Stuck (c.facing_in.ensures ∙ e)) c.requires.net

pub returns-in-Some-Of : goal.returns-in-Some-Of
returns-in-Some-Of c =
    lesser-is (record {
      free = c.args.free;
      nodes = c.args.nodes.now;
      partners = c.args.partners.now;
    }) c.args.at c.in-Some-Of.node _ c.requires.net
    (sym c.in-Stuck.ensures) (sym (rw c.in-Some-Of.field-0-is at c.in-Some-Of.ensures))
