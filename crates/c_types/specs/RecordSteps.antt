-- What the calls of a table do to its records, their members' types as trees. Each law takes what the contract of a call
-- says of the table before it and after it.
use Rattle.std.specs.Prelude.{◌≡◌, ℕ, Bool, List, [], ◌∷◌, ◌++◌, length, map, None}
use Rattle.c_types.specs.CTypes.{CType}
use Rattle.c_types.specs.Members.{names_in}
use Rattle.c_types.specs.Records.{with_declared, with_finished, members_of}
use Rattle.c_types.specs.Table.{Table, Grows, MembersBelow, AllMembersBelow, member_of, records_of, finished}
use Rattle.c_types.specs.declared.records.Member.{Member}
use Rattle.c_types.specs.declared.terms.Term.{Term}

-- the types of all members are in the table: so it is with an empty table, and after each call again
abbrev pub HasMemberTypes : Table → Type 0
HasMemberTypes t = AllMembersBelow (length t.terms) t.members

-- `new`
abbrev pub EmptyHasMemberTypes : Type 0
EmptyHasMemberTypes = (t : Table) → t.members ≡ [] → HasMemberTypes t

-- `add` and `declare_enum`: the records stay
abbrev pub RecordsStay : Type 0
RecordsStay =
    (old new : Table) → HasMemberTypes old → Grows old.terms new.terms → new.records ≡ old.records → new.layouts ≡ old.layouts → new.members ≡ old.members → (records_of new ≡ records_of old) × HasMemberTypes new

-- `declare_record`: there is one more
abbrev pub RecordIsDeclared : Type 0
RecordIsDeclared =
    (old new : Table) (is_union : Bool) (name : List ℕ) → HasMemberTypes old → Grows old.terms new.terms → new.records ≡ old.records ++ record { is_union = is_union; name = name } ∷ [] → new.layouts ≡ old.layouts ++ None ∷ [] → new.members ≡ old.members ++ [] ∷ [] → (records_of new ≡ with_declared is_union name (records_of old)) × HasMemberTypes new

-- `finish_record`: record k has its members
abbrev pub RecordIsFinished : Type 0
RecordIsFinished =
    (old new : Table) (k : ℕ) (ms : List Member) → HasMemberTypes old → MembersBelow (length old.terms) ms → new ≡ finished old k ms → (records_of new ≡ with_finished k (map (member_of old.terms) ms) (records_of old)) × HasMemberTypes new

-- `members` and `member`: the members of a type are those of the records, seen as trees, with the same names
abbrev pub MembersAreSeen : Type 0
MembersAreSeen = (table : Table) (t : CType) → members_of (records_of table).members t ≡ map (member_of table.terms) (members_of table.members t)

abbrev pub NamesAreSeen : Type 0
NamesAreSeen = (ts : List Term) (ms : List Member) → map (λ m. m.name) (map (member_of ts) ms) ≡ names_in ms
