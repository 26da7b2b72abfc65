use Rattle.std.proofs.Common.{◌≡◌, ◌∙◌, Bool, true, false, Option, sym, subst, codes}
use Rattle.clap.specs.Words.{Text}
use Rattle.command_line.specs.Browsers.{is_asked, IsAllowedBy}
use Rattle.command_line.specs.declared.listed.ListOf.TheVariants.{Origins, Hosts}
use Rattle.command_line.proofs.Browsing.{refused-hosts, refused-origins}
use Rattle.command_line.proofs.Given.{refused_too}
use Rattle.command_line.proofs.browsers.browsers_of.Goals as goal

pub returns-then-not-is_asked-clause-given : goal.returns-then-not-is_asked-clause-given
returns-then-not-is_asked-clause-given c =
    (λ i. is_asked (sym c.text_of-folder.ensures i) (sym c.text_of-origins.ensures i) (sym c.text_of-hosts.ensures i)) ∙ sym c.is_asked.ensures ∙ c.if-not-is_asked.true

pub returns-in_err-allowed_origins-clause-none : goal.returns-in_err-allowed_origins-clause-none
returns-in_err-allowed_origins-clause-none c = λ reason is browsers given.
    let asked = (λ i. is_asked (sym c.text_of-folder.ensures i) (sym c.text_of-origins.ensures i) (sym c.text_of-hosts.ensures i)) ∙ sym c.is_asked.ensures ∙ c.if-not-is_asked.false in
    refused-origins _ _ _ asked
    (λ allowed of. c.allowed_of.ensures.none reason (refused_too _ _ _ _ c.in_err-allowed_origins.was c.from_residual.ensures.1 is) allowed
    (subst (λ (list : Option Text). IsAllowedBy Origins list allowed) (sym c.text_of-origins.ensures) of))
    browsers given

pub returns-in_err-allowed_hosts-clause-none : goal.returns-in_err-allowed_hosts-clause-none
returns-in_err-allowed_hosts-clause-none c = λ reason is browsers given.
    let asked = (λ i. is_asked (sym c.text_of-folder.ensures i) (sym c.text_of-origins.ensures i) (sym c.text_of-hosts.ensures i)) ∙ sym c.is_asked.ensures ∙ c.if-not-is_asked.false in
    refused-hosts _ _ _ asked
    (λ allowed of. c.allowed_of-2.ensures.none reason (refused_too _ _ _ _ c.in_err-allowed_hosts.was c.from_residual-in_err-allowed_hosts.ensures.1 is) allowed
    (subst (λ (list : Option Text). IsAllowedBy Hosts list allowed) (sym c.text_of-hosts.ensures) of))
    browsers given

pub returns-clause-given : goal.returns-clause-given
returns-clause-given c =
    let asked = (λ i. is_asked (sym c.text_of-folder.ensures i) (sym c.text_of-origins.ensures i) (sym c.text_of-hosts.ensures i)) ∙ sym c.is_asked.ensures ∙ c.if-not-is_asked.false in (
      asked,
      record {
        origins_are = subst (λ (list : Option Text). IsAllowedBy Origins list c.in_ok-allowed_origins.allowed_origins) c.text_of-origins.ensures c.in_ok-allowed_origins.ensures.given;
        hosts_are = subst (λ (list : Option Text). IsAllowedBy Hosts list c.in_ok-allowed_hosts.allowed_hosts) c.text_of-hosts.ensures c.in_ok-allowed_hosts.ensures.given;
      },
    )
