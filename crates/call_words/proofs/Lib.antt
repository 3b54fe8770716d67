mod Prints
