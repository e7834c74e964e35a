-- What the definitions say of SQLSTATEs and of positions that are written out.
use Rattle.std.proofs.Common.{◌≡◌, ℤ, pos, negsuc, None, Some, codes, true, false, refl, arith, lit<}
use Rattle.pgw_row.specs.declared.error_kind.DatabaseErrorKind.TheVariants.{UniqueViolation, ExclusionViolation, ClosedConnection, Unknown}
use Rattle.pgw_row.specs.ErrorKinds.{kind_of}
use Rattle.pgw_row.specs.ErrorInformation.{SaysPosition}

unique : kind_of (Some (codes "23505")) false ≡ UniqueViolation
unique = refl

-- a bad connection counts more than the SQLSTATE
unique_on_a_bad_connection : kind_of (Some (codes "23505")) true ≡ ClosedConnection
unique_on_a_bad_connection = refl

no_state_on_a_bad_connection : kind_of None true ≡ ClosedConnection
no_state_on_a_bad_connection = refl

exclusion : kind_of (Some (codes "23P01")) false ≡ ExclusionViolation
exclusion = refl

connection_failure : kind_of (Some (codes "08006")) false ≡ ClosedConnection
connection_failure = refl

-- a letter of the other case, a SQLSTATE of the class of connections that is in no line, one more character, and none
small_letter : kind_of (Some (codes "23p01")) false ≡ Unknown
small_letter = refl

other_of_the_class : kind_of (Some (codes "08003")) false ≡ Unknown
other_of_the_class = refl

longer : kind_of (Some (codes "235050")) false ≡ Unknown
longer = refl

no_state : kind_of None false ≡ Unknown
no_state = refl

-- positions: digits, behind a plus, behind a minus, and the least number
plain : SaysPosition (Some (codes "17")) (pos 17)
plain = ((lit< tt, (lit< tt, (lit< tt, tt))), refl, record { sfits = lit< tt })

behind_plus : SaysPosition (Some (codes "+5")) (pos 5)
behind_plus = ((lit< tt, (lit< tt, tt)), refl, record { sfits = lit< tt })

behind_minus : SaysPosition (Some (codes "-5")) (negsuc 4)
behind_minus = ((lit< tt, (lit< tt, tt)), refl, record { sfits = lit< tt })

-- no text, a sign alone, two signs, and 2147483648 are no position
missing : (n : ℤ) → SaysPosition None n → ⊥
missing n h = h

empty : (n : ℤ) → SaysPosition (Some (codes "")) n → ⊥
empty n h = omega (arith, h.0.0)

minus_alone : (n : ℤ) → SaysPosition (Some (codes "-")) n → ⊥
minus_alone n h = omega (arith, h.0.0)

two_signs : (n : ℤ) → SaysPosition (Some (codes "-+5")) n → ⊥
two_signs n h = omega (arith, h.0.1.0)
