-- What a record and an enumeration are seen as, by their parts.
use Rattle.std.proofs.Common.{◌≡◌, ℕ, Bool, List, Option, refl, sym, ◌∙◌, ap}
use Rattle.c_tree.specs.Marked as m
use Rattle.c_tree.specs.Tree as u
use Rattle.c_tree.specs.Bare.{bare_body, bare_list}
use Rattle.c_tree.specs.declared.operator.At.{At}
use Rattle.c_tree.specs.declared.expression.Field.{Field}
use Rattle.c_tree.proofs.Views.{view_enumeration, view_record_spec}
use Rattle.call_rewriter.specs.Tagger.{put_enum, put_record}
use Rattle.c_tree.specs.View.{view_spec, view_specs, view_declarator, view_declarators, view_fields, view_body, view_record, view_enumerators, view_enumerator_list, view_list, view_enum, view_maybe}
use Rattle.c_tree.specs.View.{specs_of, declarators_of, fields_of, body_of, enumerators_of, list_of, boxed_expr}
use Rattle.c_tree.specs.declared.expression.Record.{Record}
use Rattle.c_tree.specs.declared.expression.Record as rr
use Rattle.c_tree.specs.declared.expression.Enum.{Enum}
use Rattle.c_tree.specs.declared.expression.Enum as ee
use Rattle.c_tree.specs.declared.expression.EnumeratorList.{EnumeratorList}
use Rattle.c_tree.specs.declared.expression.EnumeratorList as ll
use Rattle.c_tree.specs.declared.expression.Declarator.TheBlock as b
use Rattle.c_tree.specs.declared.expression.Declarator.TheViews as w

specs_row : (n : _) (row : b.Row_of-Spec n) → view_specs row ≡ specs_of (b.items-the_row-Spec n row)
specs_row n b.end_of-Spec = refl
specs_row n (b.more_of-Spec s ss) = ap (view_spec s) (specs_row _ ss)

declarators_row : (n : _) (row : b.Row_of-Declarator n) → view_declarators row ≡ declarators_of (b.items-the_row-Declarator n row)
declarators_row n b.end_of-Declarator = refl
declarators_row n (b.more_of-Declarator d ds) = ap (m.declarator (view_declarator d)) (declarators_row _ ds)

specs_shown : (s : _) (row : b.Row_of-Spec _) → view_specs row ≡ specs_of (b.shown-the_row-Spec-0 s row)
specs_shown s row = specs_row _ row ∙ sym (ap specs_of (b.items_shown-the_row-Spec-0 s row))

declarators_shown : (s : _) (row : b.Row_of-Declarator _) → view_declarators row ≡ declarators_of (b.shown-the_row-Declarator-4 s row)
declarators_shown s row = declarators_row _ row ∙ sym (ap declarators_of (b.items_shown-the_row-Declarator-4 s row))

fields_row : (n : _) (row : b.Row_of-Field n) → view_fields row ≡ fields_of (b.items-the_row-Field n row)
fields_row n b.end_of-Field = refl
fields_row n (b.more_of-Field at s1 ss s2 ds fs) =
    ap (λ x. m.Field at x (view_declarators ds) (view_fields fs)) (specs_shown s1 ss)
    ∙ ap (λ x. m.Field at (specs_of (b.shown-the_row-Spec-0 s1 ss)) x (view_fields fs)) (declarators_shown s2 ds)
    ∙ ap (m.Field at (specs_of (b.shown-the_row-Spec-0 s1 ss)) (declarators_of (b.shown-the_row-Declarator-4 s2 ds))) (fields_row _ fs)

expr_held : (v : b.Held-Declarator-ArrayOf-2) → view_maybe v ≡ boxed_expr (b.view-Declarator-ArrayOf-2 v)
expr_held b.Declarator-ArrayOf-2-None' = refl
expr_held (b.Declarator-ArrayOf-2-Some' p a) = refl

enumerators_row : (n : _) (row : b.Row_of-Enumerator n) → view_enumerators row ≡ enumerators_of (b.items-the_row-Enumerator n row)
enumerators_row n b.end_of-Enumerator = refl
enumerators_row n (b.more_of-Enumerator at name v es) =
    ap (λ x. m.Enumerator at name x (view_enumerators es)) (expr_held v)
    ∙ ap (m.Enumerator at name (boxed_expr (b.view-Declarator-ArrayOf-2 v))) (enumerators_row _ es)

body_held : (h : b.Held-Record-fields) → view_body h ≡ body_of (b.view-Record-fields h)
body_held b.Record-fields-None' = refl
body_held (b.Record-fields-Some' shape fs) = ap m.body (fields_row _ fs ∙ sym (ap fields_of (b.items_shown-the_row-Field-5 shape fs)))

pub record_seen : (r : Record) (ss : m.Specs) → view_record r ss ≡ m.Record (rr.out-Record r).at (rr.out-Record r).is_union (rr.out-Record r).tag (body_of (rr.out-Record r).fields) ss
unfolding w.out-Record denote.Hole.Carrier.out
record_seen (b.struct-Record at is_union tag h) ss = ap (λ x. m.Record at is_union tag x ss) (body_held h)

pub list_seen : (l : EnumeratorList) → view_enumerator_list l ≡ m.list (enumerators_of (ll.out-EnumeratorList l).enumerators) (ll.out-EnumeratorList l).has_comma
unfolding w.out-EnumeratorList denote.Hole.Carrier.out b.shown-the_row-Enumerator-3
list_seen (b.struct-EnumeratorList shape es comma) = ap (λ x. m.list x comma) (enumerators_row _ es ∙ sym (ap enumerators_of (b.items_shown-the_row-Enumerator-3 shape es)))

list_held : (h : b.Held-Enum-list) → view_list h ≡ list_of (b.view-Enum-list h)
list_held b.Enum-list-None' = refl
list_held (b.Enum-list-Some' l) = refl

pub enum_seen : (e : Enum) (ss : m.Specs) → view_enum e ss ≡ m.Enum (ee.out-Enum e).at (ee.out-Enum e).tag (list_of (ee.out-Enum e).list) ss
unfolding w.out-Enum denote.Hole.Carrier.out
enum_seen (b.struct-Enum at tag h) ss = ap (λ x. m.Enum at tag x ss) (list_held h)

-- ---- a record and an enumeration made of parts

abbrev fields_in : m.Specs → m.MaybeFields
fields_in (m.Record at is_union tag b ss) = b
fields_in m.no_specs = m.no_body
fields_in (m.Keyword w ss) = m.no_body
fields_in (m.Typedef n ss) = m.no_body
fields_in (m.attribute a ss) = m.no_body
fields_in (m.Enum at tag b ss) = m.no_body

abbrev list_in : m.Specs → m.MaybeEnumerators
list_in (m.Enum at tag b ss) = b
list_in m.no_specs = m.no_list
list_in (m.Keyword w ss) = m.no_list
list_in (m.Typedef n ss) = m.no_list
list_in (m.attribute a ss) = m.no_list
list_in (m.Record at is_union tag b ss) = m.no_list

pub record_put : (at : At) (is_union : Bool) (tag : Option (List ℕ)) (fs : Option (List Field)) (ss : u.Specs)
    → put_record (w.roll-Record (record { at = at; is_union = is_union; tag = tag; fields = fs })) ss ≡ u.Record is_union tag (bare_body (body_of fs)) ss
unfolding w.roll-Record denote.Hole.Carrier.roll
record_put at is_union tag fs ss = ap (λ r. u.Record is_union tag (bare_body (fields_in r)) ss) (view_record_spec at is_union tag fs m.no_specs)

pub enum_put : (at : At) (tag : Option (List ℕ)) (l : Option EnumeratorList) (ss : u.Specs)
    → put_enum (w.roll-Enum (record { at = at; tag = tag; list = l })) ss ≡ u.Enum tag (bare_list (list_of l)) ss
unfolding w.roll-Enum denote.Hole.Carrier.roll
enum_put at tag l ss = ap (λ e. u.Enum tag (bare_list (list_in e)) ss) (view_enumeration at tag l m.no_specs)
