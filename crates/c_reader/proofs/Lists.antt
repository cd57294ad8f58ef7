-- The tree's own lists, and lists that grow at their end.
use Rattle.std.proofs.Common.{◌≡◌, Bool, true, false, ◌||◌, List, [], ◌∷◌, ◌++◌, refl, sym, ◌∙◌, ap, append_assoc}
use Rattle.c_tree.specs.Tok as g
use Rattle.c_tree.specs.Tok.{Word}
use Rattle.c_tree.specs.Tree as u
use Rattle.c_tree.specs.Tree.{Expr, Exprs, Specs, Fields, Declarator, Declarators, Enumerators, Params, Init, Inits, BlockItems}
use Rattle.c_tree.specs.Wf.{specified, has_typedef}
use Rattle.c_reader.specs.Parts as p
use Rattle.c_reader.specs.Parts.{Spec, Field, Enumerator, Param, BlockItem, exprs_of, specs_of, fields_of, declarators_of, enumerators_of, params_of, inits_of, items_of, SpecsRead, no_specs, is_typedef, add_keyword, add_type, add_attribute}

abbrev pub list_exprs : Exprs → List Expr
list_exprs u.no_exprs = []
list_exprs (u.expr a xs) = a ∷ list_exprs xs

pub exprs_list : (xs : Exprs) → exprs_of (list_exprs xs) ≡ xs
exprs_list u.no_exprs = refl
exprs_list (u.expr a xs) = ap (u.expr a) (exprs_list xs)

abbrev pub list_specs : Specs → List Spec
list_specs u.no_specs = []
list_specs (u.Keyword w ss) = p.keyword w ∷ list_specs ss
list_specs (u.Typedef n ss) = p.typedef_name n ∷ list_specs ss
list_specs (u.Attribute es ss) = p.attribute es ∷ list_specs ss
list_specs (u.Record b tag fs ss) = p.records b tag fs ∷ list_specs ss
list_specs (u.Enum tag es ss) = p.enums tag es ∷ list_specs ss

pub specs_list : (ss : Specs) → specs_of (list_specs ss) ≡ ss
specs_list u.no_specs = refl
specs_list (u.Keyword w ss) = ap (u.Keyword w) (specs_list ss)
specs_list (u.Typedef n ss) = ap (u.Typedef n) (specs_list ss)
specs_list (u.Attribute es ss) = ap (u.Attribute es) (specs_list ss)
specs_list (u.Record b tag fs ss) = ap (u.Record b tag fs) (specs_list ss)
specs_list (u.Enum tag es ss) = ap (u.Enum tag es) (specs_list ss)

abbrev pub list_fields : Fields → List Field
list_fields u.no_fields = []
list_fields (u.Field ss ds fs) = record { specs = ss; declarators = ds } ∷ list_fields fs

pub fields_list : (fs : Fields) → fields_of (list_fields fs) ≡ fs
fields_list u.no_fields = refl
fields_list (u.Field ss ds fs) = ap (u.Field ss ds) (fields_list fs)

abbrev pub list_declarators : Declarators → List Declarator
list_declarators u.no_declarators = []
list_declarators (u.declarator d ds) = d ∷ list_declarators ds

pub declarators_list : (ds : Declarators) → declarators_of (list_declarators ds) ≡ ds
declarators_list u.no_declarators = refl
declarators_list (u.declarator d ds) = ap (u.declarator d) (declarators_list ds)

abbrev pub list_enumerators : Enumerators → List Enumerator
list_enumerators u.no_enumerators = []
list_enumerators (u.Enumerator n v es) = record { name = n; value = v } ∷ list_enumerators es

pub enumerators_list : (es : Enumerators) → enumerators_of (list_enumerators es) ≡ es
enumerators_list u.no_enumerators = refl
enumerators_list (u.Enumerator n v es) = ap (u.Enumerator n v) (enumerators_list es)

abbrev pub list_params : Params → List Param
list_params u.no_params = []
list_params (u.Param ss d ps) = record { specs = ss; declarator = d } ∷ list_params ps

pub params_list : (ps : Params) → params_of (list_params ps) ≡ ps
params_list u.no_params = refl
params_list (u.Param ss d ps) = ap (u.Param ss d) (params_list ps)

abbrev pub list_inits : Inits → List Init
list_inits u.no_inits = []
list_inits (u.init i is) = i ∷ list_inits is

pub inits_list : (is : Inits) → inits_of (list_inits is) ≡ is
inits_list u.no_inits = refl
inits_list (u.init i is) = ap (u.init i) (inits_list is)

abbrev pub list_items : BlockItems → List BlockItem
list_items u.no_items = []
list_items (u.declared d is) = p.declared d ∷ list_items is
list_items (u.statement s is) = p.statement s ∷ list_items is

pub items_list : (is : BlockItems) → items_of (list_items is) ≡ is
items_list u.no_items = refl
items_list (u.declared d is) = ap (u.declared d) (items_list is)
items_list (u.statement s is) = ap (u.statement s) (items_list is)

-- ---- specs that were read behind others

abbrev pub added : SpecsRead → Specs → SpecsRead
added s u.no_specs = s
added s (u.Keyword w ss) = added (add_keyword s w) ss
added s (u.Typedef n ss) = added (add_type s (p.typedef_name n)) ss
added s (u.Attribute es ss) = added (add_attribute s es) ss
added s (u.Record b tag fs ss) = added (add_type s (p.records b tag fs)) ss
added s (u.Enum tag es ss) = added (add_type s (p.enums tag es)) ss

pub added_specs : (ss : Specs) (s : SpecsRead) → s.specs ++ list_specs ss ≡ (added s ss).specs
added_specs u.no_specs s = append_none s.specs
  where
    append_none : (xs : List Spec) → xs ++ [] ≡ xs
    append_none [] = refl
    append_none (x ∷ xs) = ap (λ ys. x ∷ ys) (append_none xs)
added_specs (u.Keyword w ss) s = sym (append_assoc s.specs (p.keyword w ∷ []) (list_specs ss)) ∙ added_specs ss (add_keyword s w)
added_specs (u.Typedef n ss) s = sym (append_assoc s.specs (p.typedef_name n ∷ []) (list_specs ss)) ∙ added_specs ss (add_type s (p.typedef_name n))
added_specs (u.Attribute es ss) s = sym (append_assoc s.specs (p.attribute es ∷ []) (list_specs ss)) ∙ added_specs ss (add_attribute s es)
added_specs (u.Record b tag fs ss) s = sym (append_assoc s.specs (p.records b tag fs ∷ []) (list_specs ss)) ∙ added_specs ss (add_type s (p.records b tag fs))
added_specs (u.Enum tag es ss) s = sym (append_assoc s.specs (p.enums tag es ∷ []) (list_specs ss)) ∙ added_specs ss (add_type s (p.enums tag es))

pub specified_true : (ss : Specs) → specified true ss ≡ true
specified_true u.no_specs = refl
specified_true (u.Keyword w ss) = specified_true ss
specified_true (u.Typedef n ss) = refl
specified_true (u.Attribute es ss) = specified_true ss
specified_true (u.Record b tag fs ss) = refl
specified_true (u.Enum tag es ss) = refl

pub added_seen : (ss : Specs) (s : SpecsRead) → (added s ss).seen ≡ specified s.seen ss
added_seen u.no_specs s = refl
added_seen (u.Keyword w ss) s = added_seen ss (add_keyword s w)
added_seen (u.Typedef n ss) s = added_seen ss (add_type s (p.typedef_name n)) ∙ specified_true ss
added_seen (u.Attribute es ss) s = added_seen ss (add_attribute s es)
added_seen (u.Record b tag fs ss) s = added_seen ss (add_type s (p.records b tag fs)) ∙ specified_true ss
added_seen (u.Enum tag es ss) s = added_seen ss (add_type s (p.enums tag es)) ∙ specified_true ss

pub has_typedef_keyword : (w : Word) (ss : Specs) → has_typedef (u.Keyword w ss) ≡ (is_typedef w || has_typedef ss)
has_typedef_keyword g.KTypedef ss = refl
has_typedef_keyword _ ss = refl

pub or_assoc : (a b c : Bool) → ((a || b) || c) ≡ (a || (b || c))
or_assoc true b c = refl
or_assoc false b c = refl

pub or_false : (a : Bool) → (a || false) ≡ a
or_false true = refl
or_false false = refl

pub added_typedef : (ss : Specs) (s : SpecsRead) → (added s ss).typedef ≡ (s.typedef || has_typedef ss)
added_typedef u.no_specs s = sym (or_false s.typedef)
added_typedef (u.Keyword w ss) s = added_typedef ss (add_keyword s w) ∙ or_assoc s.typedef (is_typedef w) (has_typedef ss) ∙ ap (λ b. s.typedef || b) (sym (has_typedef_keyword w ss))
added_typedef (u.Typedef n ss) s = added_typedef ss (add_type s (p.typedef_name n))
added_typedef (u.Attribute es ss) s = added_typedef ss (add_attribute s es)
added_typedef (u.Record b tag fs ss) s = added_typedef ss (add_type s (p.records b tag fs))
added_typedef (u.Enum tag es ss) s = added_typedef ss (add_type s (p.enums tag es))

-- ---- specs that were read from the beginning

abbrev pub whole : Specs → SpecsRead
whole ss = added no_specs ss

pub whole_specs : (ss : Specs) → specs_of (whole ss).specs ≡ ss
whole_specs ss = ap specs_of (sym (added_specs ss no_specs)) ∙ specs_list ss

pub whole_seen : (ss : Specs) → (whole ss).seen ≡ specified false ss
whole_seen ss = added_seen ss no_specs

pub whole_typedef : (ss : Specs) → (whole ss).typedef ≡ has_typedef ss
whole_typedef ss = added_typedef ss no_specs
