use Rattle.std.proofs.Common.{◌≡◌, ◌<◌, ◌∙◌, ap, sym, arith}
use Rattle.std.proofs.lemmas.Nat.{or_lt}
use Rattle.c_types.specs.Plain.{plain}
use Rattle.c_types.specs.Table.{term_type}
use Rattle.c_types.specs.declared.terms.Term.{Term}
use Rattle.c_types.proofs.Growing.{grows_more, at_more}
use Rattle.c_types.proofs.Shaping.{own_plain, own_qualifiers}
use Rattle.c_types.proofs.table.TypeTable.plain_of.Goals as goal

pub returns-in-Named-clause-plain : goal.returns-in-Named-clause-plain
returns-in-Named-clause-plain c =
    (grows_more c.args.self.now.terms c.args.term.now).same c.plain.result.0 c.plain.ensures.valid ∙ c.plain.ensures.is ∙ sym (ap (λ (t : Term). plain (term_type c.args.self.now.terms t)) c.in-Named.is)

pub returns-in-Qualified-clause-plain : goal.returns-in-Qualified-clause-plain
returns-in-Qualified-clause-plain c =
    (grows_more c.args.self.now.terms c.args.term.now).same c.plain-in-Qualified.result.0 c.plain-in-Qualified.ensures.valid ∙ c.plain-in-Qualified.ensures.is ∙ sym (ap (λ (t : Term). plain (term_type c.args.self.now.terms t)) c.in-Qualified.is)

pub returns-in-Qualified-clause-small : goal.returns-in-Qualified-clause-small
returns-in-Qualified-clause-small c =
    let small : c.in-Qualified.qualifiers < 8 = rw c.in-Qualified.is at c.requires.numbers in
    or_lt 3 c.in-Qualified.qualifiers c.qualifiers_met-met.result small c.qualifiers_met-met.ensures.small

pub returns-in_default : goal.returns-in_default
returns-in_default c =
    let ts = c.args.self.now.terms in
    let t = c.args.term.now in
    let own : plain (term_type ts t) ≡ term_type ts t = own_plain ts t c.in_default.not-Named c.in_default.not-Qualified in
    record {
      below = omega (arith, c.len.ensures);
      plain = rw c.len.ensures (at_more ts t) ∙ sym own;
      qualifiers = sym (own_qualifiers ts t c.in_default.not-Named c.in_default.not-Qualified);
      small = omega arith;
    }
