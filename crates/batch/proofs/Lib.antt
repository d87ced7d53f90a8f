-- What the library's contracts say of the program's rooms.
pub mod Rooms
