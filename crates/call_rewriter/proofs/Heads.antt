-- A record before other specifiers, and what is put before a list as it is seen.
use Rattle.std.proofs.Common.{◌≡◌, ◌∷◌, ℕ, List, Some, refl, ap, ◌∙◌}
use Rattle.c_tree.specs.Tree as u
use Rattle.c_tree.specs.Marked as m
use Rattle.c_tree.specs.View.{body_of, fields_of, items_of, specs_of, view_enum, view_record, view_spec}
use Rattle.c_tree.specs.Bare.{bare_block, bare_body, bare_fields, bare_specs}
use Rattle.c_tree.specs.declared.expression.Record.{Record, out-Record}
use Rattle.c_tree.specs.declared.expression.Enum.{Enum}
use Rattle.c_tree.specs.declared.expression.Field.{Field}
use Rattle.c_tree.specs.declared.expression.Spec.{Spec}
use Rattle.c_tree.specs.declared.expression.Declarator.TheBlock as b
use Rattle.c_tree.specs.declared.statement.BlockItem.{BlockItem}
use Rattle.c_tree.specs.declared.statement.BlockItem.TheBlock as x
use Rattle.call_rewriter.specs.Tagged.{Hooks, one, tag_specs}
use Rattle.call_rewriter.specs.Tagger.{Tags, HeadsRecord, fields_tagging, specs_tagging, put_block_item, put_enum, put_record, put_spec}
use Rattle.call_rewriter.proofs.Forms.{record_seen}
use Rattle.call_rewriter.proofs.Numbering.{tags_one, heads_two, heads_like}

record_shown : (r : Record) (ss : m.Specs) → put_record r (bare_specs ss) ≡ bare_specs (view_record r ss)
record_shown (b.struct-Record at is_union n fields) ss = refl

enum_shown : (e : Enum) (ss : m.Specs) → put_enum e (bare_specs ss) ≡ bare_specs (view_enum e ss)
enum_shown (b.struct-Enum at n list) ss = refl

pub spec_shown : (s : Spec) (ss : List Spec) → put_spec s (bare_specs (specs_of ss)) ≡ bare_specs (view_spec s (specs_of ss))
spec_shown (b.Keyword k) ss = refl
spec_shown (b.Typedef n) ss = refl
spec_shown (b.Attribute a) ss = refl
spec_shown (b.Record r) ss = record_shown r (specs_of ss)
spec_shown (b.Enum e) ss = enum_shown e (specs_of ss)

pub record_heads : (max old new : ℕ) (h : Hooks) (r s : Record) (fs gs : List Field) → (out-Record r).fields ≡ Some fs
    → ((ss : u.Specs) → put_record s ss ≡ u.Record (out-Record r).is_union (out-Record r).tag (bare_body (body_of (Some gs))) ss)
    → Tags max old new (fields_tagging max h fs) (bare_fields (fields_of gs)) → HeadsRecord max h old new r s
record_heads max old new h r s fs gs e law t rest =
    let is_union = (out-Record r).is_union in
    let tag = (out-Record r).tag in
    let ss = specs_of rest in
    heads_like max old new _ (tag_specs max h (bare_specs (view_record r ss))) (specs_tagging max h rest) (u.Record is_union tag (u.body (bare_fields (fields_of gs)))) (put_record s)
    (ap (λ x. tag_specs max h (bare_specs x)) (record_seen r ss)
    ∙ ap (λ b. tag_specs max h (u.Record is_union tag (bare_body (body_of b)) (bare_specs ss))) e)
    law
    (heads_two max old new (u.Record is_union tag) (one u.body (fields_tagging max h fs)) (specs_tagging max h rest) (u.body (bare_fields (fields_of gs)))
    (tags_one max old new u.body (fields_tagging max h fs) (bare_fields (fields_of gs)) t))

pub block_shown : (i : BlockItem) (is : List BlockItem) → put_block_item i (bare_block (items_of is)) ≡ bare_block (items_of (i ∷ is))
block_shown (x.Declaration d) is = refl
block_shown (x.Stmt s) is = refl
