-- One user node's turn.
-- Rules: the turn as one of 01's nine rules. Words: the node's words after each rule. Moves: each rule as a move of the train. Turn: any turn, whatever
-- comes to the node and however it stands in the train.
pub mod Rules
pub mod Words
pub mod Moves
pub mod Turn
