-- The functions that sites call in place of the library's: the entry points of Clang's manual on allocation tokens.
use Rattle.std.specs.Prelude.{ℕ, Bool, ◌==◌, nat_lt, if◌then◌else◌, List, [], ◌∷◌, ◌++◌, codes, decimal, map, filter, flat_map, Some, None}
use Rattle.c_tree.specs.Tok.{KVoid, KUnsigned, KLong}
use Rattle.c_tree.specs.Marked as m
use Rattle.c_tree.specs.declared.operator.At.{At}
use Rattle.alloc_infer.specs.declared.site.Callee.{Callee}
use Rattle.alloc_infer.specs.declared.site.Callee.TheVariants.{Malloc, Calloc, Realloc}
use Rattle.tag_rules.specs.Tokens.{SiteToken}
use Rattle.tag_rules.specs.declared.abi.Abi.{Abi}
use Rattle.tag_rules.specs.declared.abi.Abi.TheVariants.{Standard, Fast}

abbrev pub callee_name : Callee → List ℕ
callee_name Malloc = codes "malloc"
callee_name Calloc = codes "calloc"
callee_name Realloc = codes "realloc"

-- how the name of each entry point begins
abbrev pub reserved : List ℕ
reserved = codes "__alloc_token_"

-- the token as last argument, or in the name
abbrev pub entry_point : Abi → Callee → ℕ → List ℕ
entry_point Standard callee token = reserved ++ callee_name callee
entry_point Fast callee token = reserved ++ decimal token ++ codes "_" ++ callee_name callee

-- a token as a constant of type unsigned long
abbrev pub constant : ℕ → List ℕ
constant token = decimal token ++ codes "UL"

-- ---- the declaration of an entry point: its nodes stand nowhere, and get their numbers later

abbrev pub nowhere : At
nowhere = record { span = record { start = 0; end = 0 }; id = 0 }

abbrev pub unsigned_long : m.Params → m.Params
unsigned_long = m.Param nowhere (m.Keyword KUnsigned (m.Keyword KLong m.no_specs)) m.no_declarator

abbrev pub void_pointer : m.Params → m.Params
void_pointer = m.Param nowhere (m.Keyword KVoid m.no_specs) (m.some_declarator (m.PointerTo nowhere [] (m.Declared nowhere None)))

-- what the library's function takes, and then more
abbrev pub taken : Callee → m.Params → m.Params
taken Malloc more = unsigned_long more
taken Calloc more = unsigned_long (unsigned_long more)
taken Realloc more = void_pointer (unsigned_long more)

abbrev pub parameters : Abi → Callee → m.Params
parameters Standard callee = taken callee (unsigned_long m.no_params)
parameters Fast callee = taken callee m.no_params

-- void * NAME ( PARAMETER TYPES ) ;
abbrev pub prototype : Abi → Callee → ℕ → m.External
prototype abi callee token = m.Declares (record {
  at = nowhere;
  specs = m.Keyword KVoid m.no_specs;
  items = record {
    at = nowhere;
    declarator = m.PointerTo nowhere [] (m.FunctionOf nowhere (m.Declared nowhere (Some (entry_point abi callee token))) (parameters abi callee));
    attributes = [];
    init = m.no_init;
  } ∷ [];
})

-- ---- those that are used, each once: by function, and those of one function by token

-- a number among others that ascend, each of them once
abbrev pub among : ℕ → List ℕ → List ℕ
among n [] = n ∷ []
among n (k ∷ ks) = if nat_lt n k then n ∷ k ∷ ks else if n == k then k ∷ ks else k ∷ among n ks

abbrev pub ascending : List ℕ → List ℕ
ascending [] = []
ascending (n ∷ ns) = among n (ascending ns)

abbrev pub number_of : Callee → ℕ
number_of Malloc = 0
number_of Calloc = 1
number_of Realloc = 2

abbrev pub is_of : Callee → SiteToken → Bool
is_of callee s = number_of s.callee == number_of callee

-- the tokens of a function's sites
abbrev pub tokens_of : Callee → List SiteToken → List ℕ
tokens_of callee ss = ascending (map (λ s. s.token) (filter (is_of callee) ss))

-- with the token as argument one entry point is enough
abbrev pub kept_of : Abi → List ℕ → List ℕ
kept_of Fast ts = ts
kept_of Standard [] = []
kept_of Standard (t ∷ ts) = t ∷ []

abbrev pub prototypes_of : Abi → List SiteToken → Callee → List m.External
prototypes_of abi ss callee = map (prototype abi callee) (kept_of abi (tokens_of callee ss))

abbrev pub prototypes : Abi → List SiteToken → List m.External
prototypes abi ss = flat_map (prototypes_of abi ss) (Malloc ∷ Calloc ∷ Realloc ∷ [])
