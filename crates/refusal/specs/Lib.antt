-- Why a call is refused, in numbers.
pub mod Numbers
