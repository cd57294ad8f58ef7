-- The library functions and the allocator's entry points, by their names.
use Rattle.std.specs.Prelude.{ℕ, ◌+◌, ◌-◌, ◌*◌, Bool, ◌&&◌, ◌==◌, if◌then◌else◌, nat_lt, nat_le, List, [], ◌∷◌, drop, take, length, Option, Some, None, slice_get, codes, bytes_eq}
use Rattle.c_core.specs.declared.tree.LibMark.{LibMark}
use Rattle.c_core.specs.declared.tree.LibMark.TheVariants as mark

-- ISO/IEC 9899:2018, 7.21.7, 7.22.3, 7.22.4, 7.24
pub data LibraryFunction : Type 0 where
  Malloc : LibraryFunction
  Calloc : LibraryFunction
  Realloc : LibraryFunction
  FreeIt : LibraryFunction
  GetChar : LibraryFunction
  PutChar : LibraryFunction
  MemCpy : LibraryFunction
  MemMove : LibraryFunction
  MemSet : LibraryFunction
  MemCmp : LibraryFunction
  StrLen : LibraryFunction
  ExitNow : LibraryFunction
  AbortNow : LibraryFunction

-- in the order of their numbers, from 0
abbrev pub library_functions : List LibraryFunction
library_functions = Malloc ∷ Calloc ∷ Realloc ∷ FreeIt ∷ GetChar ∷ PutChar ∷ MemCpy ∷ MemMove ∷ MemSet ∷ MemCmp ∷ StrLen ∷ ExitNow ∷ AbortNow ∷ []

abbrev pub library_names : List (List ℕ)
library_names =
    codes "malloc" ∷ codes "calloc" ∷ codes "realloc" ∷ codes "free" ∷ codes "getchar" ∷ codes "putchar" ∷ codes "memcpy"
    ∷ codes "memmove" ∷ codes "memset" ∷ codes "memcmp" ∷ codes "strlen" ∷ codes "exit" ∷ codes "abort" ∷ []

-- their types, as they are spelled
abbrev pub library_types : List (List ℕ)
library_types =
    codes "void *(unsigned long)" ∷ codes "void *(unsigned long, unsigned long)" ∷ codes "void *(void *, unsigned long)"
    ∷ codes "void (void *)" ∷ codes "int (void)" ∷ codes "int (int)" ∷ codes "void *(void *, const void *, unsigned long)"
    ∷ codes "void *(void *, const void *, unsigned long)" ∷ codes "void *(void *, int, unsigned long)"
    ∷ codes "int (const void *, const void *, unsigned long)" ∷ codes "unsigned long (const char *)" ∷ codes "void (int)"
    ∷ codes "void (void)" ∷ []

-- the types of the entry points of `malloc`, `calloc` and `realloc` that take the token behind the other arguments
abbrev pub entry_types : List (List ℕ)
entry_types =
    codes "void *(unsigned long, unsigned long)" ∷ codes "void *(unsigned long, unsigned long, unsigned long)"
    ∷ codes "void *(void *, unsigned long, unsigned long)" ∷ []

-- the types of the functions, by their numbers, that are called for a token in this way: only `malloc`, `calloc` and
-- `realloc` are allocation sites and have entry points, and an entry point's own token is below 65,536
abbrev pub marked_types : LibMark → List (List ℕ)
marked_types (mark.Site k) = take 3 library_types
marked_types mark.Untagged = library_types
marked_types mark.Given = entry_types
marked_types (mark.Fixed token) = if nat_lt token 65536 then take 3 library_types else []

-- a library function's number, and for which token it is called
abbrev pub Callee : Type 0
Callee = ℕ × LibMark

-- the number of the first name in a list that is this one, counted from n
abbrev pub number_of_name : List ℕ → ℕ → List (List ℕ) → Option ℕ
number_of_name name n [] = None
number_of_name name n (x ∷ names) = if bytes_eq x name then Some n else number_of_name name (n + 1) names

abbrev pub marked : LibMark → Option ℕ → Option Callee
marked m None = None
marked m (Some n) = Some (n, m)

-- `malloc`, `calloc` and `realloc`, which have entry points
abbrev pub allocator : List ℕ → Option ℕ
allocator name = number_of_name name 0 (take 3 library_names)

abbrev pub is_digit : ℕ → Bool
is_digit c = nat_le 48 c && nat_le c 57

-- a decimal number below 65,536 up to `_` and the allocator's name behind it
abbrev pub numbered : ℕ → List ℕ → Option Callee
numbered n [] = None
numbered n (c ∷ name) =
    if c == 95 then (if nat_lt n 65536 then marked (mark.Fixed n) (allocator name) else None)
    else (if is_digit c then numbered (10 * n + (c - 48)) name else None)

-- without leading zeros
abbrev pub fast_entry : List ℕ → Option Callee
fast_entry [] = None
fast_entry (c ∷ []) = None
fast_entry (c ∷ d ∷ name) =
    if c == 48 then (if d == 95 then marked (mark.Fixed 0) (allocator name) else None)
    else (if is_digit c then numbered (c - 48) (d ∷ name) else None)

abbrev pub or_else : Option Callee → Option Callee → Option Callee
or_else (Some callee) other = Some callee
or_else None other = other

abbrev pub prefix : List ℕ
prefix = codes "__alloc_token_"

-- Clang's entry points of the tokens: `__alloc_token_malloc` takes the token behind its other arguments, and
-- `__alloc_token_7_malloc` is for the token 7
abbrev pub entry : List ℕ → Option Callee
entry name =
    if bytes_eq (take (length prefix) name) prefix
    then or_else (marked mark.Given (allocator (drop (length prefix) name))) (fast_entry (drop (length prefix) name))
    else None

-- what a function without a body is, by its name
abbrev pub callee_of : List ℕ → Option Callee
callee_of name = or_else (marked mark.Untagged (number_of_name name 0 library_names)) (entry name)

abbrev pub callee_type : Callee → Option (List ℕ)
callee_type callee = slice_get (marked_types callee.1) callee.0
