-- Cuttings and guesses with their values by the definitions: theorems that the checker computes.
pub mod EvenCuttings
pub mod GuessesOfTwoPieces
pub mod JoinOfTwoGuesses
pub mod JoinAfterALoss
pub mod Meetings
pub mod SumsOfReads
